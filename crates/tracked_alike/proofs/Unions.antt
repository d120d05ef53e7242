-- What two networks track together is one thing, in either order.
use Rattle.std.proofs.Common.{◌≡◌, ◌≤◌, ◌+◌, ℕ, Bool, true, false, ◌||◌, List, [], refl, ap, ◌∙◌, sym, arith, length}
use Rattle.std.proofs.Common.{None, subst, if◌then◌else◌, Some, Option}
use Rattle.std.specs.Prelude.{nat_lt}
use Rattle.std.specs.Option.{option_map_or}
use Rattle.std.proofs.lemmas.Bool.{or_parts}
use Rattle.std.proofs.lemmas.Bool.Decides.{nat_tests}
use Rattle.mw_text.specs.declared.address.Addr.{Addr}
use Rattle.ios_ast.specs.declared.file.File.{File}
use Rattle.ios_ast.specs.Deciding.{carries}
use Rattle.route_record.specs.declared.tracked.TheConstants.{MOST_TRACKED}
use Rattle.route_record.specs.declared.tracked.Tracked.{Tracked}
use Rattle.net_interfaces.specs.declared.interfaces.TheConstants.{MOST_FILES}
use Rattle.net_interfaces.specs.Values.{united}
use Rattle.net_model.specs.Kept.{Network}
use Rattle.net_parts.specs.Tracked.{IsRoomFor, TracksNet, addresses_of, numbers_of, united_tracked}
use Rattle.net_parts.specs.World.{ascends}
use Rattle.net_parts.proofs.TrackedUp.{all_put, room_by_sizes, same_numbers}
use Rattle.paired_nets.specs.declared.refused.PairCause.TheVariants.{PairLimit}
use Rattle.paired_nets.specs.declared.refused.PairRefused.{PairRefused}
use Rattle.paired_nets.specs.Refusals.{pair_refusal, passes_limit, peer_refusal}
use Rattle.tracked_alike.specs.United.{AreUnited, DoAscend, IsUnion}
use Rattle.tracked_alike.proofs.Ascending.{carries_united, same_ascending}

-- ---- lists of numbers

turned : (a b : Bool) → (a || b) ≡ (b || a)
turned true true = refl
turned true false = refl
turned false true = refl
turned false false = refl

again : (a b : Bool) → ((b || a) || b) ≡ (b || a)
again true true = refl
again true false = refl
again false true = refl
again false false = refl

lists_turned : (xs ys : List ℕ) → ascends xs ≡ true → ascends ys ≡ true → united xs ys ≡ united ys xs
lists_turned xs ys one other =
    same_ascending (united xs ys) (united ys xs) (all_put ys xs one) (all_put xs ys other)
    (λ q. carries_united xs ys q ∙ turned (carries ys q) (carries xs q) ∙ sym (carries_united ys xs q))

lists_again : (xs ys : List ℕ) → ascends xs ≡ true → ascends ys ≡ true → united ys (united xs ys) ≡ united xs ys
lists_again xs ys one other =
    same_ascending (united ys (united xs ys)) (united xs ys) (all_put (united xs ys) ys other) (all_put ys xs one)
    (λ q. carries_united ys (united xs ys) q
    ∙ ap (λ b. b || carries ys q) (carries_united xs ys q)
    ∙ again (carries xs q) (carries ys q)
    ∙ sym (carries_united xs ys q))

list_union : (xs ys : List ℕ) → ascends xs ≡ true → IsUnion xs ys (united xs ys)
list_union xs ys up = record {
  ascending = all_put ys xs up;
  values = λ q. carries_united xs ys q ∙ turned (carries ys q) (carries xs q);
}

-- ---- of all kinds

same_fields : (a b : Tracked) → a.communities ≡ b.communities → a.numbers ≡ b.numbers → a.clusters ≡ b.clusters → a ≡ b
same_fields a b one two three =
    ap (λ cs. made cs a.numbers a.clusters) one
    ∙ ap (λ ns. made b.communities ns a.clusters) two
    ∙ ap (λ ks. made b.communities b.numbers ks) three
  where
    made : List ℕ → List ℕ → List Addr → Tracked
    made cs ns ks = record { communities = cs; numbers = ns; clusters = ks }

pub united_turned : (one other : Tracked) → DoAscend one → DoAscend other →
    united_tracked one other ≡ united_tracked other one
united_turned one other up too =
    same_fields (united_tracked one other) (united_tracked other one)
    (lists_turned one.communities other.communities up.communities too.communities)
    (lists_turned one.numbers other.numbers up.numbers too.numbers)
    (ap addresses_of (lists_turned (numbers_of one.clusters) (numbers_of other.clusters) up.clusters too.clusters))

pub united_again : (one other : Tracked) → DoAscend one → DoAscend other →
    united_tracked other (united_tracked one other) ≡ united_tracked one other
united_again one other up too =
    let own = numbers_of one.clusters in
    let others = numbers_of other.clusters in
    same_fields (united_tracked other (united_tracked one other)) (united_tracked one other)
    (lists_again one.communities other.communities up.communities too.communities)
    (lists_again one.numbers other.numbers up.numbers too.numbers)
    (ap (λ ns. addresses_of (united others ns)) (same_numbers (united own others))
    ∙ ap addresses_of (lists_again own others up.clusters too.clusters))

pub united_values : (one other : Tracked) → DoAscend one → DoAscend other →
    AreUnited one other (united_tracked one other)
united_values one other up too =
    let own = numbers_of one.clusters in
    let others = numbers_of other.clusters in
    record {
      communities = list_union one.communities other.communities up.communities;
      numbers = list_union one.numbers other.numbers up.numbers;
      clusters = subst (IsUnion own others) (sym (same_numbers (united own others)))
          (list_union own others up.clusters);
    }

-- ---- of networks

pub ascending_of : (files : List File) (tracked : Tracked) → TracksNet files tracked → DoAscend tracked
ascending_of files tracked tracks = record {
  communities = tracks.communities_ascend;
  numbers = tracks.numbers_ascend;
  clusters = tracks.clusters_ascend;
}

small : (known more : Tracked) → length known.clusters + length more.clusters ≤ MOST_TRACKED → IsRoomFor
    (record { communities = []; numbers = []; clusters = known.clusters })
    (record { communities = []; numbers = []; clusters = more.clusters })
small known more few =
    room_by_sizes (record { communities = []; numbers = []; clusters = known.clusters })
    (record { communities = []; numbers = []; clusters = more.clusters }) (omega arith) (omega arith) few

not_over : (most count : ℕ) → nat_lt most count ≡ false → count ≤ most
not_over most count is = grind (arith, nat_tests, is)

-- where what both track passes no limit, and neither tracks many clusters, there is room for it
pub room_within : (one other : Tracked) → passes_limit one other ≡ false → length one.clusters ≤ MOST_FILES →
    length other.clusters ≤ MOST_FILES → IsRoomFor one other
room_within one other within few few_too =
    let all = united_tracked one other in
    let many = nat_lt MOST_TRACKED (length all.communities) in
    let both = or_parts many (nat_lt MOST_TRACKED (length all.numbers)) within in
    record {
      communities = not_over MOST_TRACKED (length all.communities) both.0;
      numbers = not_over MOST_TRACKED (length all.numbers) both.1;
      clusters = (small one other (omega (arith, few, few_too))).clusters;
    }

-- and then for it in what the other tracks
pub room_again : (one other : Tracked) → DoAscend one → DoAscend other → IsRoomFor one other →
    IsRoomFor other (united_tracked one other)
room_again one other up too room =
    let same = united_again one other up too in
    record {
      communities = subst (λ (t : Tracked). length t.communities ≤ MOST_TRACKED) (sym same) room.communities;
      numbers = subst (λ (t : Tracked). length t.numbers ≤ MOST_TRACKED) (sym same) room.numbers;
      clusters = subst (λ (t : Tracked). length t.clusters ≤ MOST_TRACKED) (sym same) room.clusters;
    }

-- a pair that is not refused passes no limit
pub no_limit_passed : (left right : Network) → pair_refusal left right ≡ None →
    passes_limit left.tracked right.tracked ≡ false
no_limit_passed left right = by (peer_refusal left.files right.files) (passes_limit left.tracked right.tracked)
  where
    by : (first : Option PairRefused) (passes : Bool) → option_map_or (λ why. Some why) first
        (if passes then Some (record { file = 0; line = 0; cause = PairLimit }) else None) ≡ None → passes ≡ false
    by (Some why) passes h = absurd cc
    by None true h = absurd cc
    by None false h = refl
