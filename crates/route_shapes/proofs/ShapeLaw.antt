-- A route map over shapes makes of a route's shape the shape of what the map makes of the route.
use Rattle.std.proofs.Common.{◌≡◌, ℕ, ◌+◌, ◌-◌, ◌==◌, nat_lt, ◌&&◌, ◌||◌, Bool, true, false}
use Rattle.std.proofs.Common.{if◌then◌else◌}
use Rattle.std.proofs.Common.{List, [], ◌∷◌, ◌++◌, Option, Some, None, length, map, get_or, refl, sym, ap, ◌∙◌, arith}
use Rattle.std.specs.List.{find, list_any, list_all}
use Rattle.std.specs.Option.{option_and_then, option_map, option_map_or}
use Rattle.std.proofs.lemmas.Bool.{and_parts, eqb-true}
use Rattle.std.proofs.lemmas.Bool.Decides.{nat_tests}
use Rattle.std.proofs.lemmas.List.{length-append, append-nil, get_or-append_right}
use Rattle.std.proofs.lemmas.List.Folds.{list_any-append}
use Rattle.mw_text.specs.declared.address.Prefix.{Prefix}
use Rattle.ios_ast.specs.declared.file.Use.{Use}
use Rattle.ios_ast.specs.declared.policies.AsPathEntry.{AsPathEntry}
use Rattle.ios_ast.specs.declared.policies.CommunityEntry.{CommunityEntry}
use Rattle.ios_ast.specs.declared.policies.MapEntry.{MapEntry}
use Rattle.ios_ast.specs.declared.policies.Match.{Match}
use Rattle.ios_ast.specs.declared.policies.Match.TheVariants.{Access, Prefixes, Communities, Paths}
use Rattle.ios_ast.specs.declared.policies.Pattern.{Pattern}
use Rattle.ios_ast.specs.declared.policies.Pattern.TheVariants.{Empty, Any, Only, First, Last, Has}
use Rattle.ios_ast.specs.declared.policies.Policies.{Policies}
use Rattle.ios_ast.specs.declared.policies.SetAct.{SetAct}
use Rattle.ios_ast.specs.declared.policies.SetAct.TheVariants.{LocalPref, Metric, Weight, NoCommunity, Community}
use Rattle.ios_ast.specs.declared.policies.SetAct.TheVariants.{Origin, Prepend, Type1}
use Rattle.ios_ast.specs.Deciding.{in_order, carries}
use Rattle.ios_ast.specs.Communities.{with_community, with_communities, communities_taken, communities_permitted}
use Rattle.ios_ast.specs.Maps.{route_taken, deciding, entries_named, mapped, through_map}
use Rattle.ios_ast.specs.Matching.{names_of, list_permits, line_holds, lines_hold}
use Rattle.ios_ast.specs.Paths.{first_of, last_of, pattern_matches, path_permitted}
use Rattle.ios_ast.specs.Setting.{Attributes, communities_set, set_one, set_all}
use Rattle.route_record.specs.declared.tracked.Tracked.{Tracked}
use Rattle.route_record.specs.Shape.{saturated}
use Rattle.route_record.proofs.Saturated.{saturated-one, saturated-some, saturated-sum, saturated-zero}
use Rattle.route_shapes.specs.Shapes.{path_shape, route_shape, marked, marks_taken, marks_permitted}
use Rattle.route_shapes.specs.Shapes.{shape_matches, shape_taken, shape_permitted, shape_list_permits, shape_line_holds}
use Rattle.route_shapes.specs.Shapes.{shape_route_taken, marks_with, shape_prepended, set_shape, set_shapes, shape_made}
use Rattle.route_shapes.specs.Shapes.{shape_mapped, shape_through_map, pattern_tracked, values_tracked, path_tracked, all_tracked}

-- the marks of a tracked value say what the test does
pub marked-map : (f : ℕ → Bool) (tracked : List ℕ) (x : ℕ) → carries tracked x ≡ true → marked tracked (map f tracked) x
    ≡ f x
marked-map f [] x h = grind (arith)
marked-map f (t ∷ ts) x h = by (t == x) refl (marked-map f ts x)
  where
    by : (b : Bool) → (t == x) ≡ b → (carries ts x ≡ true → marked ts (map f ts) x ≡ f x)
        → (if b then f t else marked ts (map f ts) x) ≡ f x
    by true e rest = ap f (eqb-true t x e)
    by false e rest = rest (ap (λ b. b || carries ts x) (sym e) ∙ h)

-- two tests that agree on what is good agree on lists of good items
all_same : {X : Type 0} (good f g : X → Bool) → ((x : X) → good x ≡ true → f x ≡ g x) → (xs : List X)
    → list_all good xs ≡ true → list_all f xs ≡ list_all g xs
all_same good f g same [] h = refl
all_same good f g same (x ∷ xs) h =
    let parts = and_parts (good x) (list_all good xs) h in
    let here = same x parts.0 in
    let rest = all_same good f g same xs parts.1 in
    cc

find_same : {X : Type 0} (good f g : X → Bool) → ((x : X) → good x ≡ true → f x ≡ g x) → (xs : List X)
    → list_all good xs ≡ true → find f xs ≡ find g xs
find_same good f g same [] h = refl
find_same good f g same (x ∷ xs) h =
    let parts = and_parts (good x) (list_all good xs) h in
    let here = same x parts.0 in
    let rest = find_same good f g same xs parts.1 in
    cc

-- the item that is found is good
pub found_same : {X : Type 0} (good f g p : X → Bool) → ((x : X) → good x ≡ true → f x ≡ g x) → (xs : List X)
    → list_all good xs ≡ true → option_map_or f (find p xs) false ≡ option_map_or g (find p xs) false
found_same good f g p same [] h = refl
found_same good f g p same (x ∷ xs) h =
    let parts = and_parts (good x) (list_all good xs) h in
    by (p x) (found_same good f g p same xs parts.1) (same x parts.0)
  where
    by : (b : Bool) → option_map_or f (find p xs) false ≡ option_map_or g (find p xs) false → f x ≡ g x
        → option_map_or f (if b then Some x else find p xs) false
        ≡ option_map_or g (if b then Some x else find p xs) false
    by true rest here = here
    by false rest here = rest

-- one entry, and one list
community_entry : (tracked : List ℕ) (held : List ℕ) (e : CommunityEntry) → values_tracked tracked e ≡ true
    → marks_taken tracked (map (carries held) tracked) e ≡ communities_taken e held
community_entry tracked held e h =
    all_same (carries tracked) (marked tracked (map (carries held) tracked)) (carries held)
    (marked-map (carries held) tracked) e.values h

community_entries : (tracked : List ℕ) (held : List ℕ) (es : List CommunityEntry)
    → list_all (values_tracked tracked) es ≡ true
    → marks_permitted tracked (map (carries held) tracked) es ≡ communities_permitted es held
community_entries tracked held es h =
    ap (λ o. option_map_or (λ e. e.permit) o false)
    (find_same (values_tracked tracked) (marks_taken tracked (map (carries held) tracked))
    (λ e. communities_taken e held)
    (community_entry tracked held) es h)

pattern_shape : (tracked : List ℕ) (path : List ℕ) (p : Pattern) → pattern_tracked tracked p ≡ true
    → shape_matches tracked (path_shape tracked path) p ≡ pattern_matches p path
pattern_shape tracked path Empty h = saturated-zero (length path)
pattern_shape tracked path Any h = refl
pattern_shape tracked path (Only n) h = ap (λ b. b && (first_of path == n)) (saturated-one (length path))
pattern_shape tracked path (First n) h = ap (λ b. b && (first_of path == n)) (saturated-some (length path))
pattern_shape tracked path (Last n) h = ap (λ b. b && (last_of path == n)) (saturated-some (length path))
pattern_shape tracked path (Has n) h = marked-map (carries path) tracked n h

pub path_entries : (tracked : List ℕ) (path : List ℕ) (es : List AsPathEntry) →
    list_all (path_tracked tracked) es ≡ true
    → shape_permitted tracked (path_shape tracked path) es ≡ path_permitted es path
path_entries tracked path es h =
    ap (λ o. option_map_or (λ e. e.permit) o false)
    (find_same (path_tracked tracked) (shape_taken tracked (path_shape tracked path))
    (λ e. pattern_matches e.pattern path)
    (λ e good. pattern_shape tracked path e.pattern good) es h)

-- a list that a line names
list_shape : (policies : Policies) (tracked : Tracked) (p : Prefix) (path held : List ℕ)
    → all_tracked tracked policies ≡ true → (line : Match) (named : Use)
    → shape_list_permits policies tracked p (path_shape tracked.numbers path)
    (map (carries held) tracked.communities) line named
    ≡ list_permits policies p path held line named
list_shape policies tracked p path held h (Access names) named = refl
list_shape policies tracked p path held h (Prefixes names) named = refl
list_shape policies tracked p path held h (Communities names) named =
    found_same (λ l. list_all (values_tracked tracked.communities) l.entries) _ _ _
    (λ l good. community_entries tracked.communities held l.entries good) policies.communities (and_parts _ _ h).0
list_shape policies tracked p path held h (Paths names) named =
    found_same (λ l. list_all (path_tracked tracked.numbers) l.entries) _ _ _
    (λ l good. path_entries tracked.numbers path l.entries good) policies.as_paths (and_parts _ _ h).1

-- tests that agree everywhere are one test
pub one_test : {X Y : Type 0} (f g : X → Y) → ((x : X) → f x ≡ g x) → f ≡ g
one_test f g same = λ i x. same x i

line_shape : (policies : Policies) (tracked : Tracked) (p : Prefix) (path held : List ℕ)
    → all_tracked tracked policies ≡ true → (line : Match)
    → shape_line_holds policies tracked p (path_shape tracked.numbers path)
    (map (carries held) tracked.communities) line
    ≡ line_holds policies p path held line
line_shape policies tracked p path held h line =
    ap (λ test. list_any test (names_of line)) (one_test _ _ (list_shape policies tracked p path held h line))

taken_shape : (policies : Policies) (tracked : Tracked) (p : Prefix) (r : Attributes)
    → all_tracked tracked policies ≡ true → (e : MapEntry)
    → shape_route_taken policies tracked p (route_shape tracked r) e ≡ route_taken policies p r e
taken_shape policies tracked p r h e =
    ap (λ holds. lines_hold holds e.matches) (one_test _ _ (line_shape policies tracked p r.path r.communities h))

-- one more community
carries-with_community : (held : List ℕ) (c x : ℕ) → carries (with_community held c) x ≡ ((c == x) || carries held x)
carries-with_community [] c x = refl
carries-with_community (y ∷ ys) c x = by (nat_lt c y) (c == y) refl (carries-with_community ys c x)
  where
    by : (below same : Bool) → (c == y) ≡ same → carries (with_community ys c) x ≡ ((c == x) || carries ys x)
        → carries (if below then c ∷ y ∷ ys else if same then y ∷ ys else y ∷ with_community ys c) x
        ≡ ((c == x) || carries (y ∷ ys) x)
    by true same e rest = refl
    by false true e rest = there (c == x) refl
      where
        there : (b : Bool) → (c == x) ≡ b → ((y == x) || carries ys x) ≡ (b || ((y == x) || carries ys x))
        there true is = ap (λ b. b || carries ys x) (ap (λ z. z == x) (sym (eqb-true c y e)) ∙ is)
        there false is = refl
    by false false e rest = ap (λ b. (y == x) || b) rest ∙ swapped (y == x) (c == x) (carries ys x)
      where
        swapped : (a b d : Bool) → (a || (b || d)) ≡ (b || (a || d))
        swapped true true d = refl
        swapped true false d = refl
        swapped false true d = refl
        swapped false false d = refl

carries-with_communities : (held values : List ℕ) (x : ℕ)
    → carries (with_communities held values) x ≡ (carries values x || carries held x)
carries-with_communities held [] x = refl
carries-with_communities held (c ∷ cs) x =
    carries-with_communities (with_community held c) cs x
    ∙ ap (λ b. carries cs x || b) (carries-with_community held c x) ∙ swapped (carries cs x) (c == x) (carries held x)
  where
    swapped : (a b d : Bool) → (a || (b || d)) ≡ ((b || a) || d)
    swapped true true d = refl
    swapped true false d = refl
    swapped false true d = refl
    swapped false false d = refl

-- the marks after values were put in
pub marks_with-map : (f g : ℕ → Bool) (tracked values : List ℕ) (beside : Bool)
    → ((x : ℕ) → g x ≡ (carries values x || (beside && f x)))
    → marks_with tracked values beside (map f tracked) ≡ map g tracked
marks_with-map f g [] values beside h = refl
marks_with-map f g (t ∷ ts) values beside h =
    let here = sym (h t) in let rest = marks_with-map f g ts values beside h in cc

communities_shape : (tracked held values : List ℕ) (additive : Bool)
    → marks_with tracked values additive (map (carries held) tracked)
    ≡ map (carries (communities_set held values additive)) tracked
communities_shape tracked held values additive =
    marks_with-map (carries held) (carries (communities_set held values additive)) tracked values additive (by additive)
  where
    by : (beside : Bool) (x : ℕ) → carries (communities_set held values beside) x
        ≡ (carries values x || (beside && carries held x))
    by true x = carries-with_communities held values x
    by false x = carries-with_communities [] values x

-- a path with numbers in front
first-append : (numbers path : List ℕ)
    → (if length numbers == 0 then first_of path else first_of numbers) ≡ first_of (numbers ++ path)
first-append [] path = refl
first-append (n ∷ ns) path = grind (arith, nat_tests)

last-append : (numbers path : List ℕ)
    → (if length path == 0 then last_of numbers else last_of path) ≡ last_of (numbers ++ path)
last-append numbers [] = ap last_of (sym (append-nil numbers))
last-append numbers (x ∷ path) =
    let long = length-append numbers (x ∷ path) in
    let place : length (numbers ++ x ∷ path) - 1 - length numbers ≡ length (x ∷ path) - 1 = omega (arith, long) in
    let some : (length (x ∷ path) == 0) ≡ false = grind (arith, nat_tests) in
    ap (λ b. if b then last_of numbers else last_of (x ∷ path)) some
    ∙ sym
    (get_or-append_right numbers (x ∷ path) (length numbers) (length (numbers ++ x ∷ path) - 1) 0 refl
    (omega (arith, long))
    ∙ ap (λ k. get_or (x ∷ path) k 0) place)

pub path_prepended : (tracked numbers path : List ℕ)
    → shape_prepended tracked numbers (path_shape tracked path) ≡ path_shape tracked (numbers ++ path)
path_prepended tracked numbers path =
    let len : saturated (saturated (length path) + length numbers) ≡ saturated (length (numbers ++ path)) =
    saturated-sum (length path) (length numbers) ∙ ap saturated (omega (arith, length-append numbers path)) in
    let first = first-append numbers path in
    let last =
    ap (λ b. if b then last_of numbers else last_of path) (saturated-zero (length path)) ∙ last-append numbers path in
    let marks = marks_with-map (carries path) (carries (numbers ++ path)) tracked numbers true
    (list_any-at numbers path) in
    λ i. record { len = len i; first = first i; last = last i; numbers = marks i }
  where
    list_any-at : (xs ys : List ℕ) (x : ℕ) → carries (xs ++ ys) x ≡ (carries xs x || carries ys x)
    list_any-at xs ys x = list_any-append (λ y. y == x) xs ys

-- one set line
set_one_shape : (tracked : Tracked) (external : Bool) (r : Attributes) (line : SetAct)
    → set_shape tracked external (route_shape tracked r) line ≡ route_shape tracked (set_one external r line)
set_one_shape tracked external r (LocalPref n) = refl
set_one_shape tracked external r (Metric n) = refl
set_one_shape tracked external r (Weight n) = refl
set_one_shape tracked external r NoCommunity =
    ap (λ marks. record (route_shape tracked r) { communities = marks })
    (communities_shape tracked.communities r.communities [] false)
set_one_shape tracked external r (Community values additive) =
    ap (λ marks. record (route_shape tracked r) { communities = marks })
    (communities_shape tracked.communities r.communities values additive)
set_one_shape tracked external r (Origin igp) = refl
set_one_shape tracked true r (Prepend numbers) =
    ap (λ path. record (route_shape tracked r) { path = path }) (path_prepended tracked.numbers numbers r.path)
set_one_shape tracked false r (Prepend numbers) = refl
set_one_shape tracked external r (Type1 type1) = refl

set_all_shape : (tracked : Tracked) (external : Bool) (r : Attributes) (lines : List SetAct)
    → set_shapes tracked external (route_shape tracked r) lines ≡ route_shape tracked (set_all external r lines)
set_all_shape tracked external r [] = refl
set_all_shape tracked external r (line ∷ lines) =
    ap (λ s. set_shapes tracked external s lines) (set_one_shape tracked external r line)
    ∙ set_all_shape tracked external (set_one external r line) lines

-- the entry that decides over the shape of a route
pub shape_deciding-route_shape : (policies : Policies) (entries : List MapEntry) (tracked : Tracked) (p : Prefix)
    (r : Attributes) → all_tracked tracked policies ≡ true
    → find (shape_route_taken policies tracked p (route_shape tracked r)) (in_order (λ e. e.seq) entries)
    ≡ deciding policies p r entries
shape_deciding-route_shape policies entries tracked p r h =
    ap (λ test. find test (in_order (λ e. e.seq) entries)) (one_test _ _ (taken_shape policies tracked p r h))

-- the map over shapes makes of the shape of a route the shape of what the map makes of the route
pub shape_mapped-route_shape : (policies : Policies) (entries : List MapEntry) (tracked : Tracked) (p : Prefix)
    (external : Bool) (r : Attributes) → all_tracked tracked policies ≡ true
    → shape_mapped policies entries tracked p external (route_shape tracked r)
    ≡ option_map (route_shape tracked) (mapped policies entries p external r)
shape_mapped-route_shape policies entries tracked p external r h =
    ap (option_and_then (shape_made tracked external (route_shape tracked r)))
    (shape_deciding-route_shape policies entries tracked p r h)
    ∙ by (deciding policies p r entries)
  where
    made : (e : MapEntry) (b : Bool)
        → (if b then Some (set_shapes tracked external (route_shape tracked r) e.sets) else None)
        ≡ option_map (route_shape tracked) (if b then Some (set_all external r e.sets) else None)
    made e true = ap Some (set_all_shape tracked external r e.sets)
    made e false = refl

    by : (decider : Option MapEntry)
        → option_and_then (shape_made tracked external (route_shape tracked r)) decider
        ≡ option_map (route_shape tracked)
        (option_and_then (λ e. if e.permit then Some (set_all external r e.sets) else None) decider)
    by None = refl
    by (Some e) = made e e.permit

-- also where no map is applied
pub through_map-route_shape : (tracked : Tracked) (policies : Policies) (used : Option Use) (p : Prefix)
    (external : Bool) (r : Attributes) → all_tracked tracked policies ≡ true →
    shape_through_map tracked policies used p external (route_shape tracked r)
    ≡ option_map (route_shape tracked) (through_map policies used p external r)
through_map-route_shape tracked policies None p external r h = refl
through_map-route_shape tracked policies (Some named) p external r h =
    shape_mapped-route_shape policies (entries_named policies named) tracked p external r h
