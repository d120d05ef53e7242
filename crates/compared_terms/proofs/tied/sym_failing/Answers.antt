use Rattle.std.proofs.Common.{◌≡◌, ◌∙◌, ◌+◌, ◌&&◌, count_by, nat_le, sym, true}
use Rattle.std.specs.Prelude.{◌↔◌}
use Rattle.std.specs.List.{list_all}
use Rattle.std.proofs.lemmas.Bool.{and_from, and_parts}
use Rattle.std.proofs.lemmas.Result.{IfOk-weaker}
use Rattle.joined_terms.specs.Joining.{behind}
use Rattle.sym_policy.specs.Held.{failures_of}
use Rattle.term_store.specs.declared.NodeId.{NodeId}
use Rattle.term_store.specs.Reading.{Reads}
use Rattle.term_store.specs.Terms.{Reading, at}
use Rattle.ties_beside.specs.Count.{own_from}
use Rattle.ties_beside.specs.Links.{fail_alike}
use Rattle.compared_terms.specs.Ties.{FailSo}
use Rattle.compared_terms.proofs.tied.sym_failing.Goals as goal

pub returns-clause-value : goal.returns-clause-value
returns-clause-value c =
    let one = c.args.two.one.now.world.net in
    let other = c.args.two.other.now.world.net in
    let places = c.args.two.places.now in
    let links = c.args.links.now in
    let most = c.args.most in
    let same = c.in_ok-same.same in
    let few = c.in_ok-few.few in
    IfOk-weaker c.both.result
    (λ (r : NodeId). (w : Reading) → Reads w c.both.new.terms → at w r ≡ (at w same && at w few))
    (λ (r : NodeId). (w : Reading) → Reads w c.both.new.terms → at w r ≡ true
    ↔ FailSo links most (failures_of w one) (failures_of (behind places w) other))
    (λ r is w reads.
    let after = c.both.ensures.builds.reads w reads in
    let before = c.few_fail.ensures.builds.reads w after in
    let alike = c.in_ok-same.ensures.value w before
    ∙ (λ i. list_all (fail_alike w places (c.as_slice-one.ensures i) (c.as_slice-other.ensures i)) links) in
    let counted = c.in_ok-few.ensures.value w after
    ∙ (λ i. nat_le (count_by (at w) (c.as_slice-one.ensures i)
    + count_by (at (behind places w)) (own_from links 0 (c.as_slice-other.ensures i))) most) in
    let told = c.alike_law.ensures w places one other links in
    let read = c.read_law.ensures w places one other links most in (
      λ holds.
          let parts = and_parts (at w same) (at w few) (sym (is w reads) ∙ holds) in record {
            alike = told.0 (sym alike ∙ parts.0);
            few = read.0 (sym counted ∙ parts.1);
          },
      λ so. is w reads ∙ and_from (at w same) (at w few) (alike ∙ told.1 so.alike) (counted ∙ read.1 so.few),
    ))
    c.both.ensures.value
