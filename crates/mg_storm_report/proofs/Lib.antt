mod ReportLemmas
