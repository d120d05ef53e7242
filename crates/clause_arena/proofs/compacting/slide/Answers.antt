use Rattle.std.specs.Prelude.{ℕ, ◌≡◌, ◌+◌}
use Rattle.std.proofs.Common.{subst, arith}
use Rattle.clause_arena.specs.Links.{word}
use Rattle.clause_arena.specs.Compacted.{IsLinkWord}
use Rattle.clause_arena.proofs.Renaming.{slides_few, slides_two, link_copied, link_second}
use Rattle.clause_arena.proofs.compacting.slide.Goals as goal

pub mend_link-requires-clause-link : goal.mend_link-requires-clause-link
mend_link-requires-clause-link c =
    let a = c.args in
    let f = word a.words.now in
    let z : a.to + 2 + 0 ≡ a.to + 2 = omega arith in
    subst (λ (u : ℕ). IsLinkWord (word c.copy_down.new.self u)) z
    (link_copied f (word c.copy_down.new.self) a.from a.to c.read-size.result 0 c.copy_down.ensures.copied (omega arith)
    (c.requires.links 0 (omega (arith, c.read-size.ensures)) (omega arith)))

pub mend_link-requires-then-size-ge2-clause-link : goal.mend_link-requires-then-size-ge2-clause-link
mend_link-requires-then-size-ge2-clause-link c =
    let a = c.args in
    let f = word a.words.now in
    let z : a.from + 2 + 1 ≡ a.from + 3 = omega arith in
    link_second a.refs.now a.moved.now f (word c.copy_down.new.self) (word c.mend_link.new.words) a.from a.to
    c.read-size.result c.copy_down.ensures.copied c.mend_link.ensures.mended
    (subst (λ (u : ℕ). IsLinkWord (f u)) z
    (c.requires.links 1 (omega (arith, c.read-size.ensures)) (omega arith)))

pub returns-then-size-ge2-clause-slides : goal.returns-then-size-ge2-clause-slides
returns-then-size-ge2-clause-slides c =
    let a = c.args in
    slides_two a.refs.now a.moved.now (word a.words.now) (word c.copy_down.new.self) (word c.mend_link.new.words)
    (word c.mend_link-then-size-ge2.new.words) a.from a.to c.read-size.result c.copy_down.ensures.copied c.requires.below
    c.read-size.ensures c.if-size-ge2.true c.mend_link.ensures.mended c.mend_link-then-size-ge2.ensures.mended

pub returns-else-size-ge2-clause-slides : goal.returns-else-size-ge2-clause-slides
returns-else-size-ge2-clause-slides c =
    let a = c.args in
    slides_few a.refs.now a.moved.now (word a.words.now) (word c.copy_down.new.self) a.from a.to c.read-size.result
    c.copy_down.ensures.copied c.requires.below c.read-size.ensures c.if-size-ge2.false
