use Rattle.std.proofs.Common.{◌∙◌, ◌&&◌, ◌<◌, ap, arith, refl, subst, sym}
use Rattle.std.proofs.lemmas.List.{get_or_read}
use Rattle.term_arith.proofs.NumberLemmas.{ids_end_at}
use Rattle.term_store.specs.declared.NodeId.{NodeId}
use Rattle.term_store.specs.Terms.{at, size}
use Rattle.joined_terms.specs.Joining.{behind}
use Rattle.ask_search.proofs.encoding.joined.Goals as goal

pub both-requires-clause-second : goal.both-requires-clause-second
both-requires-clause-second c =
    let all = c.in_ok-places.ensures.count in
    let there = c.requires.export in
    let place = ids_end_at c.in_ok-places.places.items c.args.export.now.root.0 c.index-out.result.now
    (omega (arith, all, there)) in
    let within = c.in_ok-places.ensures.within in
    subst (λ (a : NodeId). a.0 < size c.join.new.into) (sym c.index-out.ensures) (omega (arith, place, within))

pub returns-clause-value : goal.returns-clause-value
returns-clause-value c = λ w reads.
    let all = c.in_ok-places.ensures.count in
    let there = c.requires.export in
    let out = get_or_read c.in_ok-places.places.items c.args.export.now.root.0 c.index-out.result.now
    (omega (arith, all, there)) c.index-out.ensures (record { 0 = 0 }) in (
      behind c.in_ok-places.places.items w,
      c.in_ok-places.ensures.value w (c.both.ensures.builds.reads w reads),
      refl,
      c.in_ok-root.ensures.value w reads ∙ ap (λ a. at w c.args.encoding.root && at w a) out,
    )
