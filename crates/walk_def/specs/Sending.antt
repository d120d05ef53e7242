-- The next hops of all routers.
use Rattle.std.specs.Prelude.{◌≡◌, ◌≢◌, ℕ, List, Some, AllPairs, Contains, slice_get}
use Rattle.ios_ast.specs.declared.file.File.{File}
use Rattle.route_record.specs.declared.World.{World}
use Rattle.question_lang.specs.declared.walk.Hop.{Hop}
use Rattle.question_lang.specs.Hops.{next_hops}

-- the list has the next hops of each router at its place
abbrev pub AreSent : List File → World → List (List Hop) → Type 0
AreSent files world hops =
    (router : ℕ) (of_router : List Hop) → slice_get hops router ≡ Some of_router → of_router
    ≡ next_hops files world router

-- the two lists have the same members
pub record SameMembers (xs ys : List Hop) : Type 0 where
  pub to : (x : Hop) → Contains xs x → Contains ys x
  pub from : (x : Hop) → Contains ys x → Contains xs x

-- the items of a list, each once
pub record AreOnce (out all : List Hop) : Type 0 where
  pub members : SameMembers out all
  pub once : AllPairs (λ a b. a ≢ b) out
