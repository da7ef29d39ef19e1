-- A page around the data of a run.
use Rattle.std.specs.Prelude.{ℕ, List, ◌++◌}
use Rattle.pf_page.specs.declared.foot.TheConstants.{FOOT}
use Rattle.pf_page.specs.declared.head.TheConstants.{HEAD}

-- its head, the data, its foot
unfoldable pub page_text : List ℕ → List ℕ
page_text run_data = HEAD.now ++ (run_data ++ FOOT.now)
