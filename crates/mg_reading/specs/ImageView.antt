-- The pages of an image that the program reads.
use Rattle.mg_base.specs.Image.{page_at}
use Rattle.mg_reading.specs.declared.image.Image.{Image}
use Rattle.mg_image.specs.Form.{Pages}

-- the pages by their numbers
abbrev pub pages_in : Image → Pages
pages_in image = page_at image.size image.pages.items
