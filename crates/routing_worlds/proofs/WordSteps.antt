-- Numbers that fit pass the test of it.
use Rattle.std.proofs.Common.{◌≡◌, ℕ, ◌^◌, true, List, [], ◌∷◌, refl, lt-ltb}
use Rattle.std.specs.Prelude.{All}
use Rattle.std.specs.List.{list_all}
use Rattle.std.proofs.lemmas.Bool.{and_from}
use Rattle.std.proofs.lemmas.List.Elements.{All-head, All-tail}
use Rattle.route_record.specs.Fits.{IsWord}
use Rattle.net_parts.specs.World.{is_word}

pub words_pass : (ns : List ℕ) → All IsWord ns → list_all is_word ns ≡ true
words_pass [] fit = refl
words_pass (n ∷ ns) fit =
    and_from (is_word n) (list_all is_word ns) (lt-ltb n (2 ^ 32) (All-head IsWord n ns fit))
    (words_pass ns (All-tail IsWord n ns fit))
