use Rattle.std.proofs.Common.{◌≤◌, List, length, refl, sym, subst, ap, ◌∙◌}
use Rattle.std.specs.Prelude.{slice_get}
use Rattle.std.proofs.lemmas.Option.{slice_get_read}
use Rattle.net_parts.specs.declared.links.Link.{Link}
use Rattle.paired_nets.proofs.Pairing.{all_pairs, no_pairs, pairs_more}
use Rattle.paired_nets.proofs.links.common_links.Goals as goal

pub loop-at-init : goal.loop-at-init
loop-at-init c = no_pairs c.args.left.now.files c.args.right.now.files c.new-out.result c.new-out.ensures

pub loop-at-preserved : goal.loop-at-preserved
loop-at-preserved c =
    let links = c.links-link-items.result.now in
    let there = slice_get_read links (length links) c.loop-at.at c.link-item.result refl c.loop-at-test.true
    c.link-item.is in
    pairs_more c.args.left.now.files c.args.right.now.files c.loop-at.at c.link-item.result c.link_at.result
    c.loop-at.out c.put_pair.new.out
    (ap (λ xs. slice_get xs c.loop-at.at) (sym c.links-link-items.ensures.value) ∙ there)
    c.link_at.ensures.place c.in_ok-put_pair.ensures c.loop-at.invariant

pub returns : goal.returns
returns c =
    let P : List Link → Type 0 = λ xs. length xs ≤ c.loop-at.at in
    all_pairs c.args.left.now.files c.args.right.now.files c.loop-at.at c.loop-at.out
    (subst P c.links-link-items.ensures.value c.loop-at-test.false) c.loop-at.invariant
