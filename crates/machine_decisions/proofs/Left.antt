-- Which route is held of the candidates that are left, by their places.
use Rattle.std.proofs.Common.{◌≡◌, ◌∙◌, ℕ, ◌<◌, Bool, true, false, List, [], ◌∷◌, length, Some, None, refl, ap, sym}
use Rattle.std.proofs.Common.{arith, inl, inr}
use Rattle.std.specs.Prelude.{All, option_map, slice_get, if◌then◌else◌}
use Rattle.std.specs.List.{list_any}
use Rattle.std.specs.Option.{option_map_or}
use Rattle.std.proofs.lemmas.Option.{slice_get_cases}
use Rattle.route_record.specs.declared.BgpRec.{BgpRec}
use Rattle.machine_laws.specs.Deciding.{first_route, has_route, kept}
use Rattle.proto_bgp.specs.declared.decision.Candidate.{Candidate}
use Rattle.proto_bgp.specs.Places.{candidate_at, candidates_at}
use Rattle.proto_bgp.proofs.StepLaws.{any_found}

-- the first of the places is that of the first candidate
pub first_there : (all : List Candidate) (left : List ℕ) (at : ℕ) → All (λ k. k < length all) left →
    slice_get left 0 ≡ Some at →
    first_route (candidates_at all left) ≡ option_map (λ c. c.rec) (candidate_at all at)
first_there all [] at within there = cc
first_there all (x ∷ left) at within there =
    let same : x ≡ at = cc in
    let h : x < length all = within 0 0 (omega arith) in
    elim (slice_get_cases all x).1
    [ inl found ↦ by found.0 found.2 same | inr past ↦ absurd (omega (arith, past.0)) ]
  where
    by : (c : Candidate) → slice_get all x ≡ Some c → x ≡ at →
        first_route (candidates_at all (x ∷ left)) ≡ option_map (λ c. c.rec) (candidate_at all at)
    by c e same = rw (← same) (rw e refl)

pub first_none : (all : List Candidate) (left : List ℕ) → slice_get left 0 ≡ None →
    None ≡ first_route (candidates_at all left)
first_none all [] none = refl
first_none all (x ∷ left) none = cc

told : (all : List Candidate) (left : List ℕ) (held : BgpRec) (has : Bool) →
    has ≡ list_any (λ at. option_map_or (has_route held) (candidate_at all at) false) left →
    kept (Some held) (candidates_at all left) ≡ (if has then Some held else first_route (candidates_at all left))
told all left held has is =
    ap (λ b. if b then Some held else first_route (candidates_at all left))
    (sym (is ∙ any_found (candidate_at all) (has_route held) left))

-- a route that some candidate has stays
pub stays : (all : List Candidate) (left : List ℕ) (held : BgpRec) (has : Bool) →
    has ≡ list_any (λ at. option_map_or (has_route held) (candidate_at all at) false) left → has ≡ true →
    Some held ≡ kept (Some held) (candidates_at all left)
stays all left held has is so = sym (told all left held has is ∙ rw so refl)

-- one that none has gives way to the first
pub goes : (all : List Candidate) (left : List ℕ) (held : BgpRec) (has : Bool) →
    has ≡ list_any (λ at. option_map_or (has_route held) (candidate_at all at) false) left → has ≡ false →
    first_route (candidates_at all left) ≡ kept (Some held) (candidates_at all left)
goes all left held has is off = sym (told all left held has is ∙ rw off refl)
