-- Files that form a network name no more values than may be tracked.
use Rattle.std.proofs.Common.{◌≡◌, ℕ, zero, suc, ◌+◌, ◌≤◌, Bool, true, false, List, [], ◌∷◌, ◌++◌, length, take, Option}
use Rattle.std.proofs.Common.{Some, None, refl, ap, ◌∙◌, sym, arith, fold, map, filter}
use Rattle.std.proofs.lemmas.Bool.{and_from, and_parts, leb-false}
use Rattle.std.proofs.lemmas.Bool.Decides.{nat_tests}
use Rattle.std.proofs.lemmas.List.{map-append, take_all}
use Rattle.std.proofs.lemmas.List.Sums.{fold-append}
use Rattle.std.proofs.lemmas.Grind.{flat_map-append}
use Rattle.std.specs.Prelude.{nat_le, nat_lt, slice_get, is_none}
use Rattle.std.specs.List.{flat_map, list_all}
use Rattle.std.specs.Option.{option_or}
use Rattle.mw_text.proofs.Lists.{all_at, item_there}
use Rattle.ios_ast.specs.declared.file.File.{File}
use Rattle.route_record.specs.declared.tracked.TheConstants.{MOST_TRACKED}
use Rattle.net_refusals.specs.declared.refusals.NetCause.TheVariants.{NetLimit}
use Rattle.net_interfaces.specs.declared.values.Said.{Said}
use Rattle.net_interfaces.specs.declared.values.TheConstants.{MOST_COMMUNITIES, NO_ADVERTISE, NO_EXPORT}
use Rattle.net_refusals.specs.Refusals.{earlier, first_broken, first_refusal, least, limit_line, line_if}
use Rattle.net_refusals.specs.Refusals.{refused_by_addresses, refused_by_uses, router_line, second_area_number}
use Rattle.net_refusals.specs.Refusals.{too_many_at, too_many_line}
use Rattle.net_interfaces.specs.Values.{ordered, put_number, said_communities, said_numbers, tracked_communities}
use Rattle.net_interfaces.specs.Values.{tracked_numbers}
use Rattle.net_refusals.proofs.Few.{no_line, none_at, or_none}

-- ---- no line is named, so none of the parts names one

pub both_none : (a b : Option ℕ) → earlier a b ≡ None → (a ≡ None) × (b ≡ None)
both_none None b none = (refl, none)
both_none (Some x) None none = cc
both_none (Some x) (Some y) none = cc

parts_none : {A : Type 0} (line : A → Option ℕ) (first : Option ℕ) (xs : List A) →
    fold (λ a x. earlier a (line x)) first xs ≡ None → (first ≡ None) × (list_all (λ x. is_none (line x)) xs ≡ true)
parts_none line first [] none = (none, refl)
parts_none line first (x ∷ xs) none =
    let rest = parts_none line (earlier first (line x)) xs none in
    let both = both_none first (line x) rest.0 in
    (both.0, and_from (is_none (line x)) (list_all (λ y. is_none (line y)) xs) (ap is_none both.1) rest.1)

is_no_line : (l : Option ℕ) → is_none l ≡ true → l ≡ None
is_no_line None is = refl
is_no_line (Some n) is = absurd cc

-- ---- the last of some lines

at_most_also : (a b c : ℕ) → nat_le a b ≡ true → nat_le b c ≡ true → nat_le a c ≡ true
at_most_also a b c one two = grind (arith, nat_tests)

not_at_most : (a b : ℕ) → nat_le a b ≡ false → nat_le b a ≡ true
not_at_most a b is = grind (arith, nat_tests)

at_most_itself : (a : ℕ) → nat_le a a ≡ true
at_most_itself a = grind (arith, nat_tests)

all_before : (m n : ℕ) (xs : List Said) → nat_le m n ≡ true → list_all (λ y. nat_le y.line m) xs ≡ true →
    list_all (λ y. nat_le y.line n) xs ≡ true
all_before m n [] further all = refl
all_before m n (x ∷ xs) further all =
    let both = and_parts (nat_le x.line m) (list_all (λ y. nat_le y.line m) xs) all in
    and_from (nat_le x.line n) (list_all (λ y. nat_le y.line n) xs) (at_most_also x.line m n both.0 further)
    (all_before m n xs further both.1)

last : (x : Said) (xs : List Said) →
    (k : ℕ) × (m : Said) × (slice_get (x ∷ xs) k ≡ Some m) × (list_all (λ y. nat_le y.line m.line) (x ∷ xs) ≡ true)
last x [] = (0, x, refl, and_from (nat_le x.line x.line) true (at_most_itself x.line) refl)
last x (y ∷ ys) =
    let (k, m, there, all) = last y ys in
    by_first k m there all (nat_le x.line m.line) refl
  where
    by_first : (k : ℕ) (m : Said) → slice_get (y ∷ ys) k ≡ Some m
        → list_all (λ z. nat_le z.line m.line) (y ∷ ys) ≡ true → (b : Bool) → nat_le x.line m.line ≡ b →
        (j : ℕ) × (l : Said) × (slice_get (x ∷ y ∷ ys) j ≡ Some l)
        × (list_all (λ z. nat_le z.line l.line) (x ∷ y ∷ ys) ≡ true)
    by_first k m there all true is =
        (suc k, m, there, and_from (nat_le x.line m.line) (list_all (λ z. nat_le z.line m.line) (y ∷ ys)) is all)
    by_first k m there all false is = (
      0,
      x,
      refl,
      and_from (nat_le x.line x.line) (list_all (λ z. nat_le z.line x.line) (y ∷ ys))
          (at_most_itself x.line) (all_before m.line x.line (y ∷ ys) (not_at_most x.line m.line is) all),
    )

all_kept : {A : Type 0} (p : A → Bool) (xs : List A) → list_all p xs ≡ true → filter p xs ≡ xs
all_kept p [] all = refl
all_kept p (x ∷ xs) all =
    let both = and_parts (p x) (list_all p xs) all in rw both.0 (ap (λ ys. x ∷ ys) (all_kept p xs both.1))

-- ---- a file that names no value too many, and then all files

not_more : (most n line : ℕ) → is_none (line_if (nat_lt most n) line) ≡ true → n ≤ most
not_more most n line is =
    let no : nat_lt most n ≡ false = no_line (nat_lt most n) line (is_no_line (line_if (nat_lt most n) line) is) in
    let no_next : nat_le (suc most) n ≡ false = no in omega (arith, leb-false (suc most) n no_next)

few_of_file : (most : ℕ) (known : List ℕ) (said : List Said) → too_many_line most known said ≡ None →
    length known ≤ most → length (ordered known said) ≤ most
few_of_file most known [] none few = few
few_of_file most known (x ∷ xs) none few =
    let (k, m, there, all) = last x xs in
    let each = (parts_none (too_many_at most known (x ∷ xs)) None (x ∷ xs) none).1 in
    let at_last = all_at (λ y. is_none (too_many_at most known (x ∷ xs) y)) (x ∷ xs) k m each there in
    let so_few = not_more most (length (ordered known (filter (λ y. nat_le y.line m.line) (x ∷ xs)))) m.line at_last in
    let same = ap (λ ys. length (ordered known ys)) (all_kept (λ y. nat_le y.line m.line) (x ∷ xs) all) in
    omega (arith, so_few, same)

take_next : {A : Type 0} (k : ℕ) (xs : List A) (x : A) → slice_get xs k ≡ Some x → take (suc k) xs ≡ take k xs ++ x ∷ []
take_next k [] x is = absurd cc
take_next zero (y ∷ ys) x is = let same : y ≡ x = cc in ap (λ z. z ∷ []) same
take_next (suc k) (y ∷ ys) x is = ap (λ zs. y ∷ zs) (take_next k ys x is)

ordered-append : (known : List ℕ) (a b : List Said) → ordered known (a ++ b) ≡ ordered (ordered known a) b
ordered-append known a b =
    ap (fold put_number known) (map-append (λ (x : Said). x.value) a b)
    ∙ fold-append put_number known (map (λ (x : Said). x.value) a) (map (λ (x : Said). x.value) b)

few_so_far : (most : ℕ) (known : List ℕ) (said : File → List Said) (files : List File) → length known ≤ most →
    ((k : ℕ) (file : File) → slice_get files k ≡ Some file →
    too_many_line most (ordered known (flat_map said (take k files))) (said file) ≡ None) →
    (k : ℕ) → k ≤ length files → length (ordered known (flat_map said (take k files))) ≤ most
few_so_far most known said files few kept zero within = few
few_so_far most known said files few kept (suc k) within =
    let (file, there) = item_there files k (omega (arith, within)) in
    let before = few_so_far most known said files few kept k (omega (arith, within)) in
    let so_few = few_of_file most (ordered known (flat_map said (take k files))) (said file) (kept k file there) before in
    let one : flat_map said (file ∷ []) ≡ said file ++ [] = refl in
    let same : ordered known (flat_map said (take (suc k) files))
    ≡ ordered (ordered known (flat_map said (take k files))) (said file ++ []) =
    ap (λ some. ordered known (flat_map said some)) (take_next k files file there)
    ∙ ap (ordered known) (flat_map-append said (take k files) (file ∷ []))
    ∙ ordered-append known (flat_map said (take k files)) (flat_map said (file ∷ [])) in
    let whole : ordered (ordered known (flat_map said (take k files))) (said file ++ [])
    ≡ ordered (ordered known (flat_map said (take k files))) (said file) =
    ordered-append (ordered known (flat_map said (take k files))) (said file) [] in
    omega (arith, so_few, ap length same, ap length whole)

few_said : (most : ℕ) (known : List ℕ) (said : File → List Said) (files : List File) → length known ≤ most →
    ((k : ℕ) (file : File) → slice_get files k ≡ Some file →
    too_many_line most (ordered known (flat_map said (take k files))) (said file) ≡ None) →
    length (ordered known (flat_map said files)) ≤ most
few_said most known said files few kept =
    let all = few_so_far most known said files few kept (length files) (omega arith) in
    let same = ap (λ some. length (ordered known (flat_map said some))) (take_all (length files) files (omega arith)) in
    omega (arith, all, same)

-- no file of a network passes a limit
no_limit : (files : List File) → first_refusal files ≡ None → (k : ℕ) (file : File) → slice_get files k ≡ Some file →
    limit_line (take k files) file ≡ None
unfolding first_refusal first_broken
no_limit files unrefused k file there =
    let before = option_or (refused_by_uses (refused_by_addresses files) files) (second_area_number files) in
    let place : k ≡ 0 + k = omega arith in
    ap (λ n. limit_line (take n files) file) place
    ∙ none_at NetLimit files 0 k files file (or_none before (first_broken NetLimit files) unrefused) there

pub few_communities : (files : List File) → first_refusal files ≡ None →
    length (tracked_communities files) ≤ MOST_COMMUNITIES
few_communities files unrefused =
    few_said MOST_COMMUNITIES (NO_EXPORT ∷ NO_ADVERTISE ∷ []) said_communities files (omega arith) (λ k file there.
    let parts = both_none _ _ (no_limit files unrefused k file there) in
    (both_none (router_line (take k files) file)
    (too_many_line MOST_COMMUNITIES (tracked_communities (take k files)) (said_communities file)) parts.0).1)

pub few_numbers : (files : List File) → first_refusal files ≡ None → length (tracked_numbers files) ≤ MOST_TRACKED
few_numbers files unrefused =
    few_said MOST_TRACKED [] said_numbers files (omega arith) (λ k file there.
    (both_none _ _ (no_limit files unrefused k file there)).1)
