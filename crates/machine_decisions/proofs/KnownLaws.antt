-- What is known of decisions after a look at one place, and in the course of a look at all.
use Rattle.std.proofs.Common.{◌≡◌, ◌∙◌, ◌⊎◌, ℕ, ◌+◌, ◌<◌, ◌≤◌, Bool, List, length, Option, Some, None, inl, inr, refl, sym}
use Rattle.std.proofs.Common.{arith, get_or, subst}
use Rattle.std.specs.Prelude.{IfSome, slice_get, slice_set}
use Rattle.std.proofs.Math.ListN.{length-set}
use Rattle.std.proofs.lemmas.Bool.{cases_eq}
use Rattle.std.proofs.lemmas.Option.{slice_get-get_or, slice_get_within}
use Rattle.mw_text.specs.declared.address.Addr.{Addr}
use Rattle.ios_ast.specs.declared.file.File.{File}
use Rattle.machine_laws.specs.declared.state.State.{State}
use Rattle.machine_laws.specs.Quiet.{is_unsettled_at}
use Rattle.machine_laws.proofs.ChannelLaws.{written_elsewhere, written_there}
use Rattle.machine_decisions.specs.declared.touched.Touched.TheVariants.{Place}
use Rattle.machine_decisions.specs.Touched.{AreKnown, AreKnownBut}

-- what a look at a place tells is so
abbrev IsSeen : List File → Addr → State → ℕ → Option Bool → Type 0
IsSeen files d s place seen = IfSome seen (λ would. would ≡ is_unsettled_at files d s place)

told : (files : List File) (d : Addr) (s : State) (place : ℕ) (seen : Option Bool) (would : Bool) →
    IsSeen files d s place seen → seen ≡ Some would → is_unsettled_at files d s place ≡ would
told files d s place None would is same = cc
told files d s place (Some x) would is same = let e : x ≡ would = cc in sym is ∙ e

written : (known : List (Option Bool)) (at : ℕ) (seen : Option Bool) (would : Bool) → at < length known →
    slice_get (slice_set known at seen) at ≡ Some (Some would) → seen ≡ Some would
written known at seen would h there =
    let is = written_there known at (get_or known at None) seen (slice_get-get_or known at None h) in cc

-- of the one place what was seen is known, and of each other one what was known
pub known_with : (files : List File) (d : Addr) (s : State) (at : ℕ) (seen : Option Bool) (known : List (Option Bool)) →
    at < length known → IsSeen files d s at seen → AreKnownBut files d s (Place at) known →
    AreKnown files d s (slice_set known at seen)
known_with files d s at seen known h is are = record {
  each = λ place would _ there. by place would there (cases_eq at place);
} where
  by : (place : ℕ) (would : Bool) → slice_get (slice_set known at seen) place ≡ Some (Some would) →
      (at ≡ place) ⊎ (at ≡ place → ⊥) → is_unsettled_at files d s place ≡ would
  by place would there (inr apart) =
      are.each place would apart (sym (written_elsewhere known at place seen apart) ∙ there)
  by place would there (inl same) =
      let here : slice_get (slice_set known at seen) at ≡ Some (Some would) =
      subst (λ j. slice_get (slice_set known at seen) j ≡ Some (Some would)) (sym same) there in
      subst (λ j. is_unsettled_at files d s j ≡ would) same
      (told files d s at seen would is (written known at seen would h here))

-- a place past the list is none of those of which something is known
pub known_past : (files : List File) (d : Addr) (s : State) (at : ℕ) (known : List (Option Bool)) → length known ≤ at →
    AreKnownBut files d s (Place at) known → AreKnown files d s known
known_past files d s at known h are = record {
  each = λ place would _ there.
      let within = slice_get_within known place (Some would) there in
      are.each place would (λ e. omega (arith, within, e)) there;
}

-- as many places as before, and of those so far what is known is so
pub record AreSeen (files : List File) (d : Addr) (s : State) (count at : ℕ) (known : List (Option Bool)) : Type 0 where
  pub as_many : length known ≡ count
  pub each : (place : ℕ) (would : Bool) → place < at → slice_get known place ≡ Some (Some would) →
      is_unsettled_at files d s place ≡ would

pub seen_none : (files : List File) (d : Addr) (s : State) (known : List (Option Bool)) →
    AreSeen files d s (length known) 0 known
seen_none files d s known = record { as_many = refl; each = λ place would h there. absurd (omega (arith, h)) }

pub seen_more : (files : List File) (d : Addr) (s : State) (count at : ℕ) (known : List (Option Bool))
    (seen : Option Bool) → AreSeen files d s count at known → at < count → IsSeen files d s at seen →
    AreSeen files d s count (at + 1) (slice_set known at seen)
seen_more files d s count at known seen are h is = record {
  as_many = length-set known at seen ∙ are.as_many;
  each = λ place would within there. by place would within there (cases_eq at place);
} where
  by : (place : ℕ) (would : Bool) → place < at + 1 → slice_get (slice_set known at seen) place ≡ Some (Some would) →
      (at ≡ place) ⊎ (at ≡ place → ⊥) → is_unsettled_at files d s place ≡ would
  by place would within there (inr apart) =
      are.each place would (omega (arith, within, apart)) (sym (written_elsewhere known at place seen apart) ∙ there)
  by place would within there (inl same) =
      let here : slice_get (slice_set known at seen) at ≡ Some (Some would) =
      subst (λ j. slice_get (slice_set known at seen) j ≡ Some (Some would)) (sym same) there in
      let room : at < length known = omega (arith, h, are.as_many) in
      subst (λ j. is_unsettled_at files d s j ≡ would) same
      (told files d s at seen would is (written known at seen would room here))

pub seen_all : (files : List File) (d : Addr) (s : State) (count at : ℕ) (known : List (Option Bool)) →
    AreSeen files d s count at known → count ≤ at → AreKnown files d s known
seen_all files d s count at known are h = record {
  each = λ place would _ there.
      let within = slice_get_within known place (Some would) there in
      are.each place would (omega (arith, within, h, are.as_many)) there;
}
