-- Lemmas of an entry that is put into a leaf.
use Rattle.std.proofs.Common.{◌≡◌, ◌∙◌, sym, subst, ap, ℕ, Bool, true, false, List, length}
use Rattle.mg_node.specs.declared.entry.Entry.{Entry}
use Rattle.mg_node.specs.NodePage.{IsNodePage, entries_of}
use Rattle.mg_node_writing.specs.NodeChanges.{InsertsEntry, IsEntryOf}
use Rattle.mg_pool.specs.Batch.{Changed, PutsPage}
use Rattle.mg_btree.specs.declared.halves.PageBytes.{PageBytes}
use Rattle.mg_btree.specs.Halves.{HasPlace}
use Rattle.mg_btree.specs.Inserting.{PutsWith}
use Rattle.mg_btree.specs.OrderLaws.{widens_on, widens_put, widens_sized}
use Rattle.mg_btree.specs.Ordering.{Widens}
use Rattle.mg_btree.specs.TakeLaws.{no_true}

pub puts_with : (old new : Changed) (page : PageBytes) (e : Entry) (before bytes put : List ℕ)
    → before ≡ page.bytes → ((IsEntryOf before e → ⊥) → InsertsEntry before bytes e)
    → IsNodePage bytes → length bytes ≡ length before → put ≡ bytes
    → PutsPage old new page.page.0 put → PutsWith old new page e
puts_with old new page e before bytes put same inserts lawful len is puts = record {
  bytes = bytes;
  inserts = subst (λ (b : List ℕ). (IsEntryOf b e → ⊥) → InsertsEntry b bytes e) same inserts;
  lawful = lawful;
  len = len ∙ ap (λ (b : List ℕ). length b) same;
  puts = subst (PutsPage old new page.page.0) is puts;
}

-- a leaf has the place of an entry where its entries were found to have it
pub place_found : (entries : List Entry) (read bytes : List ℕ) (items : List Entry) (e : Entry)
    → entries ≡ items → items ≡ entries_of read → bytes ≡ read → HasPlace entries e
    → HasPlace (entries_of bytes) e
place_found entries read bytes items e same says is has =
    subst (λ (b : List ℕ). HasPlace (entries_of b) e) (sym is)
    (subst (λ (es : List Entry). HasPlace es e) (same ∙ says) has)

pub place_not_found : (entries : List Entry) (read bytes : List ℕ) (items : List Entry) (e : Entry)
    (found : Bool) → entries ≡ items → items ≡ entries_of read → bytes ≡ read → found ≡ false
    → (HasPlace entries e → found ≡ true) → HasPlace (entries_of bytes) e → ⊥
place_not_found entries read bytes items e found same says is none has_it has =
    no_true found none (has_it (subst (λ (es : List Entry). HasPlace es e) (sym (same ∙ says))
    (subst (λ (b : List ℕ). HasPlace (entries_of b) e) is has)))

pub widens_with : (size : ℕ) (first second last : Changed) (page : PageBytes) (e : Entry)
    → Widens size first second → length page.bytes ≡ size → PutsWith second last page e
    → Widens size first last
widens_with size first second last page e wider len puts = widens_on size first second last wider
    (widens_sized size second last (length puts.bytes) (puts.len ∙ len)
    (widens_put second last page.page.0 puts.bytes puts.puts))
