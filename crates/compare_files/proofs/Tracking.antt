-- Networks that track the same values.
use Rattle.std.proofs.Common.{◌≡◌, ◌∙◌, ◌≤◌, List, length, ap, ap₂, sym, subst, Option, None, Ok}
use Rattle.ios_ast.specs.declared.file.File.{File}
use Rattle.mw_outside.specs.Contents.{Contents}
use Rattle.net_model.specs.Kept.{Network}
use Rattle.net_parts.specs.Tracked.{tracked_of, united_tracked}
use Rattle.net_parts.proofs.TrackedUp.{few_clusters}
use Rattle.paired_nets.specs.Refusals.{pair_refusal}
use Rattle.route_record.specs.declared.tracked.Tracked.{Tracked}
use Rattle.same_asks.specs.declared.reader.TheConstants.{MOST_ASKS}
use Rattle.same_asks.specs.declared.same.Same.{Same}
use Rattle.same_asks.specs.Asking.{AreKnown}
use Rattle.compare_words.specs.Words.{Asking, Sides}
use Rattle.compare_files.specs.Due.{ComesTo, built}
use Rattle.compare_files.specs.Loading.{AreBeside, AreBuilt}
use Rattle.compare_files.proofs.Reading.{as_built}

-- a network that was built tracks no more cluster identifiers than it has routers
pub clusters_fit : (n : Network) → n.tracked ≡ tracked_of n.files → length n.tracked.clusters ≤ length n.files
clusters_fit n is =
    let P : Tracked → Type 0 = λ t. length t.clusters ≤ length n.files in subst P (sym is) (few_clusters n.files)

-- networks that were built, which then track what both did
pub beside_of : (told : Option Contents) (sides : Sides) (one other left right : Network) (asks : List Same) →
    AreBuilt told sides one other → pair_refusal one other ≡ None → AreKnown one.files other.files asks →
    length asks ≤ MOST_ASKS → left ≡ record one { tracked = united_tracked one.tracked other.tracked } →
    right ≡ record other { tracked = left.tracked } → AreBeside left right asks
beside_of told sides one other left right asks all compared known few is too =
    let on_left : left.files ≡ one.files = ap (λ (n : Network). n.files) is in
    let on_right : right.files ≡ other.files = ap (λ (n : Network). n.files) too in
    let L : List File → Type 0 = λ files. AreKnown files other.files asks in
    let R : List File → Type 0 = λ files. AreKnown left.files files asks in
    record {
      compared = ap₂ (λ a b. pair_refusal (built a) (built b)) on_left on_right
          ∙ ap₂ pair_refusal (sym (as_built one all.left_tracks)) (sym (as_built other all.right_tracks)) ∙ compared;
      tracked = ap (λ (n : Network). n.tracked) is
          ∙ ap₂ united_tracked (all.left_tracks ∙ ap tracked_of (sym on_left))
          (all.right_tracks ∙ ap tracked_of (sym on_right));
      alike = sym (ap (λ (n : Network). n.tracked) too);
      known = subst R (sym on_right) (subst L (sym on_left) known);
      few = few;
    }

-- they are of the same files
pub comes_still : (told : Option Contents) (asked : Asking) (one other left right : Network) (asks : List Same) →
    left ≡ record one { tracked = united_tracked one.tracked other.tracked } →
    right ≡ record other { tracked = left.tracked } → ComesTo told asked (Ok (one.files, other.files, asks)) →
    ComesTo told asked (Ok (left.files, right.files, asks))
comes_still told asked one other left right asks is too comes =
    let L : List File → Type 0 = λ files. ComesTo told asked (Ok (files, other.files, asks)) in
    let R : List File → Type 0 = λ files. ComesTo told asked (Ok (left.files, files, asks)) in
    subst R (sym (ap (λ (n : Network). n.files) too)) (subst L (sym (ap (λ (n : Network). n.files) is)) comes)
