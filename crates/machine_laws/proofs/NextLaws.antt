-- No event comes next by itself exactly where a state is quiet.
use Rattle.std.proofs.Common.{◌≡◌, ◌∙◌, ℕ, zero, suc, ◌+◌, ◌*◌, ◌<◌, ◌==◌, ◌/◌, ◌%◌, Bool, true, false, not, List, []}
use Rattle.std.proofs.Common.{◌∷◌, length, Option, Some, None, refl, ap, sym, subst, arith, cond, get_or, zero-add}
use Rattle.std.specs.Prelude.{All, option_map, position, slice_get}
use Rattle.std.specs.List.{position_from, range_with_len}
use Rattle.std.specs.Bool.{Decides}
use Rattle.std.specs.Option.{is_none, option_map_or, option_or}
use Rattle.std.proofs.lemmas.Bool.{ne_eqb}
use Rattle.std.proofs.lemmas.Iterator.Adapters.{position_from-zero}
use Rattle.std.proofs.lemmas.List.FromFn.{get_or-range_with_len, length-range_with_len}
use Rattle.std.proofs.lemmas.Option.{get_or_from_slice_get, slice_get-get_or, slice_get_within}
use Rattle.mw_text.specs.declared.address.Addr.{Addr}
use Rattle.mw_text.specs.Address.{prefix_at}
use Rattle.mw_text.proofs.Found.{no_value}
use Rattle.ios_ast.specs.declared.file.File.{File}
use Rattle.route_record.specs.declared.Slot.{Slot}
use Rattle.route_record.specs.declared.TheConstants.{LENGTHS}
use Rattle.route_record.specs.Places.{slot_at}
use Rattle.same_routes.specs.Slots.{same_slot}
use Rattle.same_routes.proofs.SameSlots.{slot_decides}
use Rattle.machine_laws.specs.declared.state.Channel.{Channel}
use Rattle.machine_laws.specs.declared.state.Event.{Event}
use Rattle.machine_laws.specs.declared.state.Event.TheVariants.{DeliverBgp, DeliverOspf}
use Rattle.machine_laws.specs.declared.state.Mail.{Mail}
use Rattle.machine_laws.specs.declared.state.State.{State}
use Rattle.machine_laws.specs.Deciding.{decided}
use Rattle.machine_laws.specs.Quiet.{IsQuiet, decide_at, has_mail, is_unsettled, is_unsettled_at, next_event}

-- ---- the first place at which a test passes

none_passes : {X : Type 0} (p : X → Bool) (i : ℕ) (xs : List X) → position_from p i xs ≡ None →
    (k : ℕ) (x : X) → slice_get xs k ≡ Some x → p x ≡ false
none_passes p i [] none k x there = cc
none_passes {X = X} p i (y ∷ ys) none k x there =
    by (λ rest j at. none_passes p (i + 1) ys rest j x at) (p y) refl none k there
  where
    by : (position_from p (i + 1) ys ≡ None → (j : ℕ) → slice_get ys j ≡ Some x → p x ≡ false) →
        (b : Bool) → p y ≡ b → cond b (Some i) (position_from p (i + 1) ys) ≡ None → (k : ℕ) →
        slice_get (y ∷ ys) k ≡ Some x → p x ≡ false
    by deeper true is e k there = cc
    by deeper false is e zero there = let same : y ≡ x = cc in sym (ap p same) ∙ is
    by deeper false is e (suc k) there = deeper e k there

nowhere : {X : Type 0} (p : X → Bool) (i : ℕ) (xs : List X) →
    ((k : ℕ) (x : X) → slice_get xs k ≡ Some x → p x ≡ false) → position_from p i xs ≡ None
nowhere p i [] none = refl
nowhere p i (y ∷ ys) none =
    rw (none zero y refl) (nowhere p (i + 1) ys (λ k x there. none (suc k) x there))

first_none : {X : Type 0} (p : X → Bool) (xs : List X) → position p xs ≡ None →
    (k : ℕ) (x : X) → slice_get xs k ≡ Some x → p x ≡ false
first_none p xs none = none_passes p 0 xs (sym (position_from-zero p xs) ∙ none)

no_first : {X : Type 0} (p : X → Bool) (xs : List X) →
    ((k : ℕ) (x : X) → slice_get xs k ≡ Some x → p x ≡ false) → position p xs ≡ None
no_first p xs none = position_from-zero p xs ∙ nowhere p 0 xs none

-- ---- mail

empty_mail : {M : Type 0} (mail : List (Mail M)) → not (length mail == 0) ≡ false → mail ≡ []
empty_mail [] e = refl
empty_mail (m ∷ rest) e =
    let apart : (length (m ∷ rest) == 0) ≡ false = ne_eqb (length (m ∷ rest)) 0 (λ z. omega arith) in
    let never : true ≡ false = sym (ap not apart) ∙ e in cc

without_mail : {M : Type 0} (cs : List (Channel M)) → position has_mail cs ≡ None → All (λ c. c.mail ≡ []) cs
without_mail cs none k d within =
    empty_mail (get_or cs k d).mail (first_none has_mail cs none k (get_or cs k d) (slice_get-get_or cs k d within))

no_mail_first : {M : Type 0} (cs : List (Channel M)) → All (λ c. c.mail ≡ []) cs → position has_mail cs ≡ None
no_mail_first {M = M} cs none =
    no_first has_mail cs (λ k c there.
    let empty : c.mail ≡ [] =
    subst (λ (x : Channel M). x.mail ≡ []) (get_or_from_slice_get cs k c c there) (none k c (slice_get_within cs k c there)) in
    rw empty refl)

-- ---- decisions

settled_by : (files : List File) (s : State) (router : ℕ) (d : Addr) (len : ℕ) (file : File) (slot : Slot) →
    slice_get files router ≡ Some file → slot_at s.tables router len ≡ Some slot →
    is_unsettled files d s router len ≡ false → decided files s router file (prefix_at d len) slot ≡ slot
unfolding is_unsettled
settled_by files s router d len file slot in_file there is =
    let test : not (same_slot (decided files s router file (prefix_at d len) slot) slot) ≡ false = rw (in_file, there) at is in
    (slot_decides (decided files s router file (prefix_at d len) slot) slot).0
    (passed (same_slot (decided files s router file (prefix_at d len) slot) slot) test)
  where
    passed : (b : Bool) → not b ≡ false → b ≡ true
    passed true e = refl
    passed false e = cc

unsettled_not : (files : List File) (d : Addr) (s : State) (router len : ℕ) → len < LENGTHS →
    ((file : File) (slot : Slot) → slice_get files router ≡ Some file → slot_at s.tables router len ≡ Some slot →
    decided files s router file (prefix_at d len) slot ≡ slot) → is_unsettled files d s router len ≡ false
unfolding is_unsettled
unsettled_not files d s router len h settled = by (slice_get files router) (slot_at s.tables router len) refl refl where
  by : (o : Option File) (q : Option Slot) → slice_get files router ≡ o → slot_at s.tables router len ≡ q →
      option_map_or (λ file. option_map_or (λ slot.
      not (same_slot (decided files s router file (prefix_at d len) slot) slot)) q false) o false ≡ false
  by None q in_file there = refl
  by (Some file) None in_file there = refl
  by (Some file) (Some slot) in_file there =
      ap not ((slot_decides (decided files s router file (prefix_at d len) slot) slot).1 (settled file slot in_file there))

len_within : (place : ℕ) → place % LENGTHS < LENGTHS
len_within place = omega arith

at_place : (n k : ℕ) → k < n → slice_get (range_with_len 0 n) k ≡ Some k
at_place n k h =
    slice_get-get_or (range_with_len 0 n) k 0 (omega (arith, length-range_with_len 0 n))
    ∙ ap Some (get_or-range_with_len 0 n k 0 h ∙ zero-add k)

in_range : (n k x : ℕ) → slice_get (range_with_len 0 n) k ≡ Some x → x ≡ k
in_range n k x there =
    let within : k < n = omega (arith, slice_get_within (range_with_len 0 n) k x there, length-range_with_len 0 n) in
    let same = at_place n k within in cc

-- ---- all events

both_none : {X : Type 0} (a b : Option X) → option_or a b ≡ None → (a ≡ None) × (b ≡ None)
both_none None b e = (refl, e)
both_none (Some x) b e = cc

pub next_none : (files : List File) (d : Addr) (s : State) → next_event files d s ≡ None → IsQuiet files d s
unfolding next_event
next_none files d s none =
    let first = both_none (option_map DeliverBgp (position has_mail s.sessions)) _ none in
    let second = both_none (option_map DeliverOspf (position has_mail s.adjacencies)) _ first.1 in
    let third = no_value decide_at (position (is_unsettled_at files d s) (range_with_len 0 (length s.tables.slots)))
    second.1 in
    record {
      no_mail = (
        without_mail s.sessions (no_value DeliverBgp (position has_mail s.sessions) first.0),
        without_mail s.adjacencies (no_value DeliverOspf (position has_mail s.adjacencies) second.0),
      );
      settled = λ router len file slot in_file h there.
          let within = slice_get_within s.tables.slots (LENGTHS * router + len) slot there in
          let test : is_unsettled_at files d s (LENGTHS * router + len) ≡ false =
          first_none (is_unsettled_at files d s) (range_with_len 0 (length s.tables.slots)) third
          (LENGTHS * router + len) (LENGTHS * router + len)
          (at_place (length s.tables.slots) (LENGTHS * router + len) within) in
          let row : (LENGTHS * router + len) / LENGTHS ≡ router = omega arith in
          let column : (LENGTHS * router + len) % LENGTHS ≡ len = omega arith in
          settled_by files s router d len file slot in_file there (rw (row, column) at test);
    }

pub quiet_next : (files : List File) (d : Addr) (s : State) → IsQuiet files d s → next_event files d s ≡ None
unfolding next_event
quiet_next files d s quiet =
    rw (no_mail_first s.sessions quiet.no_mail.0) (rw (no_mail_first s.adjacencies quiet.no_mail.1)
    (ap (option_map decide_at)
    (no_first (is_unsettled_at files d s) (range_with_len 0 (length s.tables.slots)) (λ k x there.
    unsettled_not files d s (x / LENGTHS) (x % LENGTHS) (len_within x) (λ file slot in_file is.
    quiet.settled (x / LENGTHS) (x % LENGTHS) file slot in_file (len_within x) is)))))

-- that there is none tells whether the state is quiet
pub quiet_decides : (files : List File) (d : Addr) (s : State) (next : Option Event) → next ≡ next_event files d s →
    Decides (is_none next) (IsQuiet files d s)
quiet_decides files d s None is = (λ t. next_none files d s (sym is), λ quiet. refl)
quiet_decides files d s (Some event) is = (λ t. cc, λ quiet. let none = quiet_next files d s quiet in cc)
