-- Failed links stay places of links in ascending order.
use Rattle.std.proofs.Common.{ℕ, zero, suc, ◌<◌, Bool, true, false, not, List, [], ◌∷◌, length, arith}
use Rattle.std.proofs.Common.{if◌then◌else◌}
use Rattle.std.specs.Prelude.{◌==◌, All, count_by, insert, nat_lt}
use Rattle.std.specs.List.{list_any}
use Rattle.std.proofs.lemmas.List.Elements.{All-cons, All-filter, All-head, All-nil, All-tail}
use Rattle.ios_ast.specs.declared.file.File.{File}
use Rattle.route_record.specs.declared.Failures.{Failures}
use Rattle.net_interfaces.specs.Values.{put_number}
use Rattle.net_parts.specs.World.{IsFailureSet, links_of}
use Rattle.net_parts.proofs.TrackedUp.{all_put, kept_ascends}
use Rattle.machine_laws.specs.Events.{mended, with_cut}

all_inserted : {X : Type 0} (P : X → Type 0) (xs : List X) (at : ℕ) (x : X) → All P xs → P x → All P (insert xs at x)
all_inserted P [] zero x all here = All-cons P x [] here (All-nil P)
all_inserted P [] (suc at) x all here = All-cons P x [] here (All-nil P)
all_inserted P (y ∷ xs) zero x all here = All-cons P x (y ∷ xs) here all
all_inserted P (y ∷ xs) (suc at) x all here =
    All-cons P y (insert xs at x) (All-head P y xs all) (all_inserted P xs at x (All-tail P y xs all) here)

put_all : (P : ℕ → Type 0) (xs : List ℕ) (n : ℕ) → All P xs → P n → All P (put_number xs n)
put_all P xs n all here = by (list_any (λ m. m == n) xs) where
  by : (b : Bool) → All P (if b then xs else insert xs (count_by (λ m. nat_lt m n) xs) n)
  by true = all
  by false = all_inserted P xs (count_by (λ m. nat_lt m n) xs) n all here

pub cut_is : (files : List File) (link : ℕ) (failures : Failures) → link < length (links_of files) →
    IsFailureSet files (length failures.links) failures →
    IsFailureSet files (length (with_cut link failures).links) (with_cut link failures)
cut_is files link failures h is = record {
  ascending = all_put (link ∷ []) failures.links is.ascending;
  of_links = put_all (λ at. at < length (links_of files)) failures.links link is.of_links h;
  at_most = omega arith;
}

pub mended_is : (files : List File) (link : ℕ) (failures : Failures) → IsFailureSet files (length failures.links) failures →
    IsFailureSet files (length (mended link failures).links) (mended link failures)
mended_is files link failures is = record {
  ascending = kept_ascends (λ l. not (l == link)) failures.links is.ascending;
  of_links = All-filter (λ l. not (l == link)) (λ at. at < length (links_of files)) failures.links is.of_links;
  at_most = omega arith;
}
