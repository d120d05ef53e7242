-- What a network tracks has all that its files name.
use Rattle.std.proofs.Common.{◌≡◌, ℕ, zero, suc, ◌+◌, ◌≤◌, Bool, true, false, ◌||◌, if◌then◌else◌, List, [], ◌∷◌, ◌++◌}
use Rattle.std.proofs.Common.{Some, refl, ap, ◌∙◌, sym, arith, map}
use Rattle.std.specs.Prelude.{◌==◌, count_by, insert, nat_lt, slice_get}
use Rattle.std.specs.List.{flat_map, list_any}
use Rattle.std.proofs.lemmas.Bool.{and_from, and_parts, eqb-true, or_left, or_right}
use Rattle.std.proofs.lemmas.Bool.Decides.{nat_tests}
use Rattle.mw_text.specs.declared.address.Addr.{Addr}
use Rattle.ios_ast.specs.declared.file.File.{File}
use Rattle.ios_ast.specs.Deciding.{carries}
use Rattle.route_record.specs.declared.tracked.Tracked.{Tracked}
use Rattle.net_interfaces.specs.declared.values.Said.{Said}
use Rattle.net_interfaces.specs.declared.values.TheConstants.{NO_ADVERTISE, NO_EXPORT}
use Rattle.net_interfaces.specs.Values.{has_all, put_number, said_communities, said_numbers, tracked_communities}
use Rattle.net_interfaces.specs.Values.{tracked_numbers, united}
use Rattle.net_parts.specs.Exports.{router_id}
use Rattle.net_parts.specs.Tracked.{TracksNet, clusters_from, numbers_of, reflects, tracked_clusters}
use Rattle.net_parts.proofs.TrackedUp.{same_numbers}

-- ---- values that are put into a list stand there

any_new : (p : ℕ → Bool) (xs : List ℕ) (at n : ℕ) → p n ≡ true → list_any p (insert xs at n) ≡ true
any_new p [] zero n h = ap (λ b. b || false) h
any_new p [] (suc at) n h = ap (λ b. b || false) h
any_new p (x ∷ xs) zero n h = ap (λ b. b || list_any p (x ∷ xs)) h
any_new p (x ∷ xs) (suc at) n h = or_right (p x) (list_any p (insert xs at n)) (any_new p xs at n h)

any_old : (p : ℕ → Bool) (xs : List ℕ) (at n : ℕ) → list_any p xs ≡ true → list_any p (insert xs at n) ≡ true
any_old p [] zero n h = cc
any_old p [] (suc at) n h = cc
any_old p (x ∷ xs) zero n h = or_right (p n) (list_any p (x ∷ xs)) h
any_old p (x ∷ xs) (suc at) n h = by (p x) (any_old p xs at n) h
  where
    by : (b : Bool) → (list_any p xs ≡ true → list_any p (insert xs at n) ≡ true)
        → (b || list_any p xs) ≡ true → (b || list_any p (insert xs at n)) ≡ true
    by true rest h = refl
    by false rest h = rest h

pub itself : (n : ℕ) → (n == n) ≡ true
itself n = grind (arith, nat_tests)

put_new : (xs : List ℕ) (n : ℕ) → carries (put_number xs n) n ≡ true
put_new xs n = by (carries xs n) refl
  where
    at : ℕ
    at = count_by (λ m. nat_lt m n) xs

    by : (b : Bool) → carries xs n ≡ b → carries (if b then xs else insert xs at n) n ≡ true
    by true e = e
    by false e = any_new (λ y. y == n) xs at n (itself n)

put_old : (xs : List ℕ) (n m : ℕ) → carries xs m ≡ true → carries (put_number xs n) m ≡ true
put_old xs n m h = by (carries xs n)
  where
    at : ℕ
    at = count_by (λ k. nat_lt k n) xs

    by : (b : Bool) → carries (if b then xs else insert xs at n) m ≡ true
    by true = h
    by false = any_old (λ y. y == m) xs at n h

pub united_old : (known more : List ℕ) (m : ℕ) → carries known m ≡ true → carries (united known more) m ≡ true
united_old known [] m h = h
united_old known (n ∷ more) m h = united_old (put_number known n) more m (put_old known n m h)

-- all values that are put to a list stand there
pub united_new : (known more : List ℕ) → has_all (united known more) more ≡ true
united_new known [] = refl
united_new known (n ∷ more) =
    and_from (carries (united (put_number known n) more) n) (has_all (united (put_number known n) more) more)
    (united_old (put_number known n) more n (put_new known n)) (united_new (put_number known n) more)

-- ---- a list that has all values of another

has_through : (xs ys : List ℕ) → ((n : ℕ) → carries xs n ≡ true → carries ys n ≡ true) → (values : List ℕ) →
    has_all xs values ≡ true → has_all ys values ≡ true
has_through xs ys through [] all = refl
has_through xs ys through (n ∷ values) all =
    let both = and_parts (carries xs n) (has_all xs values) all in
    and_from (carries ys n) (has_all ys values) (through n both.0) (has_through xs ys through values both.1)

-- what has all values of another list has each of them
pub stands_also : (xs ys : List ℕ) (n : ℕ) → has_all xs ys ≡ true → carries ys n ≡ true → carries xs n ≡ true
stands_also xs [] n all there = absurd cc
stands_also xs (y ∷ ys) n all there =
    let both = and_parts (carries xs y) (has_all xs ys) all in
    by_first both.0 (stands_also xs ys n both.1) (y == n) refl there
  where
    by_first : carries xs y ≡ true → (carries ys n ≡ true → carries xs n ≡ true) → (b : Bool) → (y == n) ≡ b
        → (b || carries ys n) ≡ true → carries xs n ≡ true
    by_first here rest true same there = ap (carries xs) (sym (eqb-true y n same)) ∙ here
    by_first here rest false other there = rest there

-- a list has what another has, of which it has all
pub has_also : (xs ys values : List ℕ) → has_all xs ys ≡ true → has_all ys values ≡ true → has_all xs values ≡ true
has_also xs ys values one two = has_through ys xs (λ n h. stands_also xs ys n one h) values two

-- each value stands in its own list
pub has_itself : (xs : List ℕ) → has_all xs xs ≡ true
has_itself [] = refl
has_itself (x ∷ xs) =
    and_from (carries (x ∷ xs) x) (has_all (x ∷ xs) xs) (ap (λ b. b || carries xs x) (itself x))
    (has_through xs (x ∷ xs) (λ n h. or_right (x == n) (carries xs n) h) xs (has_itself xs))

pub has_more : (known more values : List ℕ) → has_all known values ≡ true → has_all (united known more) values ≡ true
has_more known more values all = has_through known (united known more) (λ n h. united_old known more n h) values all

-- ---- a network

-- all communities and AS numbers that the files name are tracked
pub communities_tracked : (files : List File) (tracked : Tracked) → TracksNet files tracked →
    has_all tracked.communities (map (λ s. s.value) (flat_map said_communities files)) ≡ true
communities_tracked files tracked tracks =
    let said = map (λ (s : Said). s.value) (flat_map said_communities files) in
    has_also tracked.communities (tracked_communities files) said tracks.communities
    (united_new (NO_EXPORT ∷ NO_ADVERTISE ∷ []) said)

pub numbers_tracked : (files : List File) (tracked : Tracked) → TracksNet files tracked →
    has_all tracked.numbers (map (λ s. s.value) (flat_map said_numbers files)) ≡ true
numbers_tracked files tracked tracks =
    let said = map (λ (s : Said). s.value) (flat_map said_numbers files) in
    has_also tracked.numbers (tracked_numbers files) said tracks.numbers (united_new [] said)

-- and the two communities that are well known
pub export_tracked : (files : List File) (tracked : Tracked) → TracksNet files tracked →
    carries tracked.communities NO_EXPORT ≡ true
export_tracked files tracked tracks =
    let said = map (λ (s : Said). s.value) (flat_map said_communities files) in
    stands_also tracked.communities (tracked_communities files) NO_EXPORT tracks.communities
    (united_old (NO_EXPORT ∷ NO_ADVERTISE ∷ []) said NO_EXPORT refl)

pub advertise_tracked : (files : List File) (tracked : Tracked) → TracksNet files tracked →
    carries tracked.communities NO_ADVERTISE ≡ true
advertise_tracked files tracked tracks =
    let said = map (λ (s : Said). s.value) (flat_map said_communities files) in
    stands_also tracked.communities (tracked_communities files) NO_ADVERTISE tracks.communities
    (united_old (NO_EXPORT ∷ NO_ADVERTISE ∷ []) said NO_ADVERTISE refl)

-- the cluster of a router that reflects is among those of the routers from a first one on
cluster_said : (files : List File) (from : ℕ) (rest : List File) (k : ℕ) (file : File) → slice_get rest k ≡ Some file →
    reflects file ≡ true → carries (numbers_of (clusters_from files from rest)) (router_id files (from + k)).0 ≡ true
cluster_said files from [] k file is reflect = cc
cluster_said files from (first ∷ rest) zero file is reflect =
    let same : first ≡ file = cc in
    let place : from + 0 ≡ from = omega arith in
    let id = (router_id files from).0 in
    ap (λ n. carries (numbers_of (clusters_from files from (first ∷ rest))) (router_id files n).0) place
    ∙ ap (λ b. carries (numbers_of ((if b then router_id files from ∷ [] else [])
    ++ clusters_from files (from + 1) rest)) id) (ap reflects same ∙ reflect)
    ∙ or_left (id == id) _ (itself id)
cluster_said files from (first ∷ rest) (suc k) file is reflect =
    let place : from + suc k ≡ from + 1 + k = omega arith in
    ap (λ n. carries (numbers_of (clusters_from files from (first ∷ rest))) (router_id files n).0) place
    ∙ by_first (reflects first) (router_id files (from + 1 + k)).0
    (cluster_said files (from + 1) rest k file is reflect)
  where
    by_first : (b : Bool) (n : ℕ) → carries (numbers_of (clusters_from files (from + 1) rest)) n ≡ true →
        carries (numbers_of ((if b then router_id files from ∷ [] else []) ++ clusters_from files (from + 1) rest)) n
        ≡ true
    by_first true n there = or_right ((router_id files from).0 == n) _ there
    by_first false n there = there

-- the cluster of each router that reflects is tracked
pub cluster_tracked : (files : List File) (tracked : Tracked) → TracksNet files tracked → (router : ℕ) (file : File) →
    slice_get files router ≡ Some file → reflects file ≡ true →
    carries (numbers_of tracked.clusters) (router_id files router).0 ≡ true
cluster_tracked files tracked tracks router file is reflect =
    let said = numbers_of (clusters_from files 0 files) in
    let id = (router_id files router).0 in
    let place : router ≡ 0 + router = omega arith in
    let there : carries said id ≡ true =
    ap (λ n. carries said (router_id files n).0) place ∙ cluster_said files 0 files router file is reflect in
    stands_also (numbers_of tracked.clusters) (numbers_of (tracked_clusters files)) id tracks.clusters
    (ap (λ ns. carries ns id) (same_numbers (united [] said))
    ∙ stands_also (united [] said) said id (united_new [] said) there)
