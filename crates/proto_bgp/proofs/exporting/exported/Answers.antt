use Rattle.std.proofs.Common.{◌∙◌, sym, rules}
use Rattle.proto_bgp.proofs.Sent.{external_law, internal_law}
use Rattle.proto_bgp.proofs.exporting.exported.Goals as goal

pub returns-then-end : goal.returns-then-end
returns-then-end c =
    internal_law c.args.files.now c.in-Some.file.now c.in-Some-Some.process c.in-Some-Some.neighbour.now c.args.end.now
    c.args.p.now c.args.held.now c.in-Some-2.made c.args.speaker.now.address c.in_ok-msg.msg
    (record {
      in_file = search rules;
      runs = search rules;
      has = search rules;
      may = sym c.may_go.ensures ∙ c.if-not-may_go.false;
      pass = sym c.passes_lists.ensures ∙ c.if-not-passes_lists.false;
      left = sym c.in-Some-2.is ∙ c.in_ok-made.ensures;
    }) c.if-end.true c.requires.address c.in_ok-msg.ensures

pub returns : goal.returns
returns c =
    external_law c.args.files.now c.in-Some.file.now c.in-Some-Some.process c.in-Some-Some.neighbour.now c.args.end.now
    c.args.p.now c.args.held.now c.in-Some-2.made c.args.speaker.now.address c.in_ok-keeps.keeps c.in_ok-msg-2.msg
    (record {
      in_file = search rules;
      runs = search rules;
      has = search rules;
      may = sym c.may_go.ensures ∙ c.if-not-may_go.false;
      pass = sym c.passes_lists.ensures ∙ c.if-not-passes_lists.false;
      left = sym c.in-Some-2.is ∙ c.in_ok-made.ensures;
    }) c.if-end.false c.requires.address c.in_ok-keeps.ensures c.in_ok-msg-2.ensures
