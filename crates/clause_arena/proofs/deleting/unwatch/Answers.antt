use Rattle.std.specs.Prelude.{length}
use Rattle.std.proofs.Common.{arith}
use Rattle.clause_arena.specs.Links.{word, places}
use Rattle.clause_arena.proofs.Unlinks.{held_by, pair, freed_two, freed_few}
use Rattle.clause_arena.proofs.deleting.unwatch.Goals as goal

pub returns-then-size_in-lt2-clause-freed : goal.returns-then-size_in-lt2-clause-freed
returns-then-size_in-lt2-clause-freed c =
    let a = c.args in
    freed_few a.vars (length a.words.now) (word a.words.now) a.refs.now (places a.words.now) a.clause
    c.requires.sound.laid c.requires.sound.linked c.requires.held (omega (arith, c.size_in.ensures.value))

pub unlink-requires-clause-apart : goal.unlink-requires-clause-apart
unlink-requires-clause-apart c =
    let a = c.args in
    let p = pair a.vars (length a.words.now) (word a.words.now) a.refs.now (places a.words.now) a.clause
    c.code_in-one.result c.code_in-other.result c.link_to-link.result c.link_to-other_link.result
    c.requires.sound.laid c.requires.sound.linked (held_by (word a.words.now) a.refs.now (places a.words.now) a.clause
    c.size_in.result c.code_in-one.result c.code_in-other.result c.link_to-link.result c.link_to-other_link.result
    c.requires.held c.size_in.ensures.value c.if-size_in-lt2.false c.code_in-one.ensures.value
    c.code_in-other.ensures.value c.link_to-link.ensures.leads c.link_to-link.ensures.link
    c.link_to-other_link.ensures.leads c.link_to-other_link.ensures.link) in
    p.past

pub returns-clause-freed : goal.returns-clause-freed
returns-clause-freed c =
    let a = c.args in
    freed_two a.vars (length a.words.now) (word a.words.now) (word c.unlink.new.words) a.refs.now
    (places a.words.now) a.clause c.code_in-one.result c.code_in-other.result c.link_to-link.result
    c.link_to-other_link.result c.requires.sound.laid c.requires.sound.linked
    (held_by (word a.words.now) a.refs.now (places a.words.now) a.clause
    c.size_in.result c.code_in-one.result c.code_in-other.result c.link_to-link.result c.link_to-other_link.result
    c.requires.held c.size_in.ensures.value c.if-size_in-lt2.false c.code_in-one.ensures.value
    c.code_in-other.ensures.value c.link_to-link.ensures.leads c.link_to-link.ensures.link
    c.link_to-other_link.ensures.leads c.link_to-other_link.ensures.link) c.unlink.ensures.unlinked
