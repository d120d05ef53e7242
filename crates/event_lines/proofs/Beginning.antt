-- A line has the words of its head.
use Rattle.std.proofs.Common.{◌≡◌, ◌∙◌, ℕ, ◌≤◌, List, [], length, Option, Some, ap}
use Rattle.std.specs.Prelude.{nat_le}
use Rattle.std.specs.List.{find}
use Rattle.std.proofs.lemmas.Bool.{and_parts, leb-true}
use Rattle.mw_text.proofs.Found.{find_passes}
use Rattle.event_lines.specs.declared.heads.Head.{Head}
use Rattle.event_lines.specs.Grammar.{is_head}

pub head_fits : (words : List (List ℕ)) (heads : List Head) (head : Head) → find (is_head words) heads ≡ Some head →
    head.2 ≤ length words
head_fits words heads head e =
    leb-true head.2 (length words) (and_parts (nat_le head.2 (length words)) _ (find_passes
    (is_head words) heads head e)).0
