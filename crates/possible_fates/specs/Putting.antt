-- The possible fates of a network, router by router.
use Rattle.std.specs.Prelude.{ℕ, ◌+◌, List, [], ◌∷◌, ◌++◌, fold, map}
use Rattle.std.specs.BTreeSet.{insert_key}
use Rattle.mw_text.specs.declared.address.Addr.{Addr}
use Rattle.ios_ast.specs.declared.file.File.{File}
use Rattle.packet_fates.specs.declared.fate.Fate.{Fate}
use Rattle.packet_fates.specs.declared.fate.Fate.TheVariants.{Delivered, Left, BlackHole, Loop}
use Rattle.packet_fates.specs.Order.{fate_order}
use Rattle.leaving_addresses.specs.Leaving.{leaving}

-- fates in their order, with more, each at its place
abbrev pub put_all : List Fate → List Fate → List Fate
put_all out more = fold (insert_key fate_order) out more

-- to leave the network at the router of that name
abbrev pub left_at : List ℕ → List Addr → List Fate
left_at name addresses = map (λ a. Left name a) addresses

-- to end there
abbrev pub fates_at : List ℕ → List Addr → List Fate
fates_at name addresses = Delivered name ∷ left_at name addresses

-- to end at one of the routers from that number on
abbrev pub fates_from : List File → ℕ → List File → List Fate
fates_from files router [] = []
fates_from files router (file ∷ rest) =
    fates_at file.hostname (leaving files router) ++ fates_from files (router + 1) rest

-- all
abbrev pub fates_in : List File → List Fate
fates_in files = BlackHole ∷ Loop ∷ fates_from files 0 files
