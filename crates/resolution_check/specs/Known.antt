-- What a checker knows of the entries that it has accepted.
use Rattle.std.specs.Prelude.{ℕ, ◌≡◌, ◌+◌, ◌⊎◌, Bool, ◌||◌, ◌&&◌, ◌==◌, nat_lt, nat_le, if◌then◌else◌, List, length}
use Rattle.std.specs.Prelude.{Option, Some, None, is_some, Result, Ok, Err}
use Rattle.std.specs.Option.{option_flatten}
use Rattle.std.specs.Map.{lookup}
use Rattle.std.specs.Ordering.{nat_cmp}
use Rattle.std.specs.BTreeMap.{is_at}
use Rattle.resolution_check.specs.declared.log.Clause.{Clause}
use Rattle.resolution_check.specs.declared.log.Entry.{Entry}
use Rattle.resolution_check.specs.declared.log.Entry.TheVariants.{Input, Add, Delete, End}
use Rattle.resolution_check.specs.declared.log.Bad.{Bad}
use Rattle.resolution_check.specs.declared.log.Bad.TheVariants.{AfterEnd, Memory}
use Rattle.resolution_check.specs.Entries.{is_given, gives, clause_held, has_ended, adds_empty, addition_count, IsGood}
use Rattle.resolution_check.specs.Entries.{entry_fault, is_end, is_refutation, additions_in}

-- The numbers from 1 up to `through` were given, and the front has those of their clauses that are held.
-- The other numbers given are the keys of `loose`, with their clauses while those are held.
pub record Shelved : Type 0 where
  pub through : ℕ
  pub front : List (ℕ × Clause)
  pub loose : List (ℕ × Option Clause)

abbrev pub is_in_order : ℕ → ℕ → Bool
is_in_order through id = nat_lt 0 id && nat_le id through

-- whether a number was given
abbrev pub given_on : Shelved → ℕ → Bool
given_on shelf id = is_in_order shelf.through id || is_some (lookup (is_at (nat_cmp id)) shelf.loose)

-- the clause that is held under a number
abbrev pub held_on : Shelved → ℕ → Option Clause
held_on shelf id =
    if is_in_order shelf.through id then lookup (is_at (nat_cmp id)) shelf.front else option_flatten
    (lookup (is_at (nat_cmp id)) shelf.loose)

-- how many numbers were given
abbrev pub count_of : Shelved → ℕ
count_of shelf = shelf.through + length shelf.loose

pub record Known : Type 0 where
  pub shelf : Shelved
  pub added : ℕ
  pub refuted : Bool
  pub ended : Bool

-- the checker has accepted exactly these entries, in this order
pub record HasRead (known : Known) (es : List Entry) : Type 0 where
  pub good : IsGood es
  pub given : (id : ℕ) → given_on known.shelf id ≡ is_given es id
  pub held : (id : ℕ) → held_on known.shelf id ≡ clause_held es id
  pub added : known.added ≡ addition_count es
  pub refuted : known.refuted ≡ adds_empty es
  pub ended : known.ended ≡ has_ended es

-- ---- one step, without the list

-- the first cause to refuse the entry where the log has not ended
abbrev pub open_fault : Shelved → Entry → Option Bad
open_fault shelf e = entry_fault (given_on shelf) (held_on shelf) e

-- the first cause to refuse the entry
abbrev pub fault_in : Known → Entry → Option Bad
fault_in known e = if known.ended then Some AfterEnd else open_fault known.shelf e

-- an outcome that this cause of refusal allows: none, the cause, or want of memory
abbrev pub IsJudged : {U : Type 0} → Result U Bad → Option Bad → Type 0
IsJudged (Ok done) fault = fault ≡ None
IsJudged (Err bad) fault = (bad ≡ Memory) ⊎ (fault ≡ Some bad)

-- the clause that is held under a number after the entry, where old was held before it
abbrev pub held_by : Entry → ℕ → Option Clause → Option Clause
held_by (Input own clause) id old = if own == id then Some clause else old
held_by (Add own clause chain) id old = if own == id then Some clause else old
held_by (Delete own) id old = if own == id then None else old
held_by End id old = old

-- what the entry makes of the old shelf
pub record Shelves (old new : Shelved) (e : Entry) : Type 0 where
  pub given : (id : ℕ) → given_on new id ≡ (given_on old id || gives id e)
  pub held : (id : ℕ) → held_on new id ≡ held_by e id (held_on old id)

-- from old to new by this entry
pub record Advances (old new : Known) (e : Entry) : Type 0 where
  pub shelf : Shelves old.shelf new.shelf e
  pub added : new.added ≡ old.added + additions_in e
  pub refuted : new.refuted ≡ (old.refuted || is_refutation e)
  pub ended : new.ended ≡ (old.ended || is_end e)
