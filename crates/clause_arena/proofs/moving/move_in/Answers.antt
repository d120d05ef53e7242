use Rattle.std.specs.Prelude.{ℕ, ◌≡◌, ◌+◌, ◌<◌, ◌⊎◌, Option, IfSome, length, refl}
use Rattle.std.proofs.Common.{sym, ◌∙◌, ap, subst, arith}
use Rattle.clause_arena.specs.declared.names.Watch.{Watch}
use Rattle.clause_arena.specs.Links.{word}
use Rattle.clause_arena.specs.Store.{store}
use Rattle.clause_arena.specs.Watched.{place_or, own, Stands, watch_at, link_of}
use Rattle.clause_arena.proofs.Walks.{leads, low_or_high}
use Rattle.clause_arena.proofs.Shifts.{clear_at, done_at}
use Rattle.clause_arena.proofs.moving.move_in.Goals as goal

pub link_in-link-requires : goal.link_in-link-requires
link_in-link-requires c =
    let a = c.args in
    let n = own (store a.vars a.words.now a.refs.now) a.w in
    let k = clear_at a.vars a.words.now a.refs.now a.before a.w a.to
    (link_of a.before n) _ _ c.requires.sound c.requires.stands c.requires.before c.requires.behind c.requires.within
    refl refl refl in
    let l : link_of a.before n < length a.words.now = k.link in
    subst (λ (u : ℕ). link_of a.before u < 18446744073709551616) (sym c.code_in-old.ensures.value) (omega arith)

pub turn-requires-clause-clear : goal.turn-requires-clause-clear
turn-requires-clause-clear c =
    let a = c.args in
    clear_at a.vars a.words.now a.refs.now a.before a.w a.to c.link_in-link.result c.place_of.result
    c.code_in-new.result
    c.requires.sound c.requires.stands c.requires.before c.requires.behind c.requires.within
    (c.link_in-link.ensures
    ∙ ap (link_of a.before) c.code_in-old.ensures.value) c.place_of.ensures c.code_in-new.ensures.value

pub read-requires : goal.read-requires
read-requires c =
    let a = c.args in
    let k = clear_at a.vars a.words.now a.refs.now a.before a.w a.to c.link_in-link.result c.place_of.result
    c.code_in-new.result
    c.requires.sound c.requires.stands c.requires.before c.requires.behind c.requires.within
    (c.link_in-link.ensures
    ∙ ap (link_of a.before) c.code_in-old.ensures.value) c.place_of.ensures c.code_in-new.ensures.value in
    let l : c.link_in-link.result < length a.words.now = k.link in
    let e : length c.turn.new.words ≡ length a.words.now = c.turn.ensures.len in
    omega arith

pub watch_of-requires : goal.watch_of-requires
watch_of-requires c =
    let a = c.args in
    let n = own (store a.vars a.words.now a.refs.now) a.w in
    let b = link_of a.before n in
    let eb : c.link_in-link.result ≡ b = c.link_in-link.ensures ∙ ap (link_of a.before) c.code_in-old.ensures.value in
    let d = done_at a.vars a.words.now c.turn.new.words a.refs.now a.before a.w a.to c.link_in-link.result
    c.place_of.result c.code_in-new.result
    c.code_in-old.result c.requires.sound c.requires.stands c.requires.before c.requires.behind c.requires.within
    c.turn.ensures.len
    eb c.place_of.ensures c.code_in-new.ensures.value c.code_in-old.ensures.value c.turn.ensures.moved in
    subst (λ (u : ℕ). (u ≡ 0) ⊎ (3 < u + 2)) (sym (c.read.ensures ∙ ap (word c.turn.new.words) eb))
    (low_or_high a.vars c.turn.new.words a.refs.now n b d.sound d.below d.link)

pub returns-clause-sound : goal.returns-clause-sound
returns-clause-sound c =
    let a = c.args in
    let n = own (store a.vars a.words.now a.refs.now) a.w in
    let b = link_of a.before n in
    let eb : c.link_in-link.result ≡ b = c.link_in-link.ensures ∙ ap (link_of a.before) c.code_in-old.ensures.value in
    let d = done_at a.vars a.words.now c.turn.new.words a.refs.now a.before a.w a.to c.link_in-link.result
    c.place_of.result c.code_in-new.result
    c.code_in-old.result c.requires.sound c.requires.stands c.requires.before c.requires.behind c.requires.within
    c.turn.ensures.len
    eb c.place_of.ensures c.code_in-new.ensures.value c.code_in-old.ensures.value c.turn.ensures.moved in
    d.sound

pub returns-clause-moves : goal.returns-clause-moves
returns-clause-moves c =
    let a = c.args in
    let n = own (store a.vars a.words.now a.refs.now) a.w in
    let b = link_of a.before n in
    let eb : c.link_in-link.result ≡ b = c.link_in-link.ensures ∙ ap (link_of a.before) c.code_in-old.ensures.value in
    let d = done_at a.vars a.words.now c.turn.new.words a.refs.now a.before a.w a.to c.link_in-link.result
    c.place_of.result c.code_in-new.result
    c.code_in-old.result c.requires.sound c.requires.stands c.requires.before c.requires.behind c.requires.within
    c.turn.ensures.len
    eb c.place_of.ensures c.code_in-new.ensures.value c.code_in-old.ensures.value c.turn.ensures.moved in
    d.moves

pub returns-clause-head : goal.returns-clause-head
returns-clause-head c =
    let a = c.args in
    let n = own (store a.vars a.words.now a.refs.now) a.w in
    let b = link_of a.before n in
    let eb : c.link_in-link.result ≡ b = c.link_in-link.ensures ∙ ap (link_of a.before) c.code_in-old.ensures.value in
    let d = done_at a.vars a.words.now c.turn.new.words a.refs.now a.before a.w a.to c.link_in-link.result
    c.place_of.result c.code_in-new.result
    c.code_in-old.result c.requires.sound c.requires.stands c.requires.before c.requires.behind c.requires.within
    c.turn.ensures.len
    eb c.place_of.ensures c.code_in-new.ensures.value c.code_in-old.ensures.value c.turn.ensures.moved in
    let l = leads a.vars c.turn.new.words a.refs.now n b d.sound d.below d.link in
    ap place_or (c.watch_of.ensures ∙ ap watch_at (c.read.ensures ∙ ap (word c.turn.new.words) eb)) ∙ l.head

pub returns-clause-stands : goal.returns-clause-stands
returns-clause-stands c =
    let a = c.args in
    let n = own (store a.vars a.words.now a.refs.now) a.w in
    let b = link_of a.before n in
    let eb : c.link_in-link.result ≡ b = c.link_in-link.ensures ∙ ap (link_of a.before) c.code_in-old.ensures.value in
    let d = done_at a.vars a.words.now c.turn.new.words a.refs.now a.before a.w a.to c.link_in-link.result
    c.place_of.result c.code_in-new.result
    c.code_in-old.result c.requires.sound c.requires.stands c.requires.before c.requires.behind c.requires.within
    c.turn.ensures.len
    eb c.place_of.ensures c.code_in-new.ensures.value c.code_in-old.ensures.value c.turn.ensures.moved in
    let l = leads a.vars c.turn.new.words a.refs.now n b d.sound d.below d.link in
    subst (λ (w : Option Watch). IfSome w (Stands (store a.vars c.turn.new.words a.refs.now) n))
    (sym (c.watch_of.ensures ∙ ap watch_at (c.read.ensures ∙ ap (word c.turn.new.words) eb))) l.stands

pub returns-clause-fewer : goal.returns-clause-fewer
returns-clause-fewer c =
    let a = c.args in
    let n = own (store a.vars a.words.now a.refs.now) a.w in
    let b = link_of a.before n in
    let eb : c.link_in-link.result ≡ b = c.link_in-link.ensures ∙ ap (link_of a.before) c.code_in-old.ensures.value in
    let d = done_at a.vars a.words.now c.turn.new.words a.refs.now a.before a.w a.to c.link_in-link.result
    c.place_of.result c.code_in-new.result
    c.code_in-old.result c.requires.sound c.requires.stands c.requires.before c.requires.behind c.requires.within
    c.turn.ensures.len
    eb c.place_of.ensures c.code_in-new.ensures.value c.code_in-old.ensures.value c.turn.ensures.moved in
    d.fewer
