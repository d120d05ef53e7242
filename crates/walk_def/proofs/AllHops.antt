-- The hops of all routers.
use Rattle.std.proofs.Common.{◌≡◌, ℕ, true, List, length, sym, subst}
use Rattle.std.specs.List.{list_all}
use Rattle.ios_ast.specs.declared.file.File.{File}
use Rattle.route_record.specs.declared.World.{World}
use Rattle.question_lang.specs.declared.walk.Hop.{Hop}
use Rattle.question_lang.specs.Hops.{next_hops}
use Rattle.walk_def.proofs.Inside.{next_hops_inside}
use Rattle.walk_def.specs.Marks.{is_inside}

-- the hops of the router, which stay inside
abbrev pub IsSent : List File → World → ℕ → List Hop → Type 0
IsSent files world router hops = (hops ≡ next_hops files world router)
    × (list_all (is_inside (length files)) hops ≡ true)

pub sent_here : (files : List File) (world : World) (router n : ℕ) (hops : List Hop) →
    hops ≡ next_hops files world router → n ≡ router → IsSent files world n hops
sent_here files world router n hops made place =
    let P : ℕ → Type 0 = λ r. IsSent files world r hops in
    let Q : List Hop → Type 0 = λ hs. list_all (is_inside (length files)) hs ≡ true in
    subst P (sym place) (made, subst Q (sym made) (next_hops_inside files world router))
