-- What single lines read as.
use Rattle.std.specs.Prelude.{ℕ, List, [], ◌∷◌, codes, Option, Some, None, Result, Ok, Err, false, option_map}
use Rattle.mw_text.specs.Words.{words_in}
use Rattle.ios_ast.specs.declared.file.File.{File}
use Rattle.ios_ast.specs.declared.file.Iface.{Iface}
use Rattle.ios_policy_reader.specs.declared.cause.Cause.{Cause}
use Rattle.ios_policy_reader.specs.declared.said.Said.{Said}
use Rattle.ios_policy_reader.specs.Edges.{bad_word_in}
use Rattle.ios_policy_reader.specs.Worked.{no_policies}
use Rattle.question_lang.specs.declared.forms.Form.{Form}
use Rattle.question_lang.specs.declared.question.Kind.{Kind}
use Rattle.question_lang.specs.declared.question.PacketSet.{PacketSet}
use Rattle.question_lang.specs.Asking.{kind_of}
use Rattle.question_lang.specs.Grammar.{words_said}
use Rattle.question_lang.specs.Naming.{set_of}

-- which word of a question of the kind is bad, or 0
abbrev pub bad_word : Form → List ℕ → ℕ
bad_word form text = bad_word_in (words_said form (words_in text))

abbrev pub router_with : List ℕ → List Iface → File
router_with name interfaces = record {
  hostname = name;
  hostname_line = 1;
  interfaces = interfaces;
  statics = [];
  ospf = None;
  bgp = None;
  policies = no_policies;
}

abbrev pub iface_called : List ℕ → Iface
iface_called name = record {
  line = 2;
  name = name;
  address = None;
  shutdown = false;
  bandwidth = 1;
  cost = None;
  list_in = None;
  list_out = None;
}

-- router A with two interfaces, and routers B and C
abbrev pub three_routers : List File
three_routers =
    router_with (codes "A") (iface_called (codes "Vlan1") ∷ iface_called (codes "Vlan2") ∷ [])
    ∷ router_with (codes "B") []
    ∷ router_with (codes "C") []
    ∷ []

abbrev pub kind_by : Form → List (List ℕ) → Result (List Said) Cause → Option Kind
kind_by form words (Ok said) = kind_of three_routers form words said
kind_by form words (Err cause) = None

-- what a question of the kind asks of these routers
abbrev pub kind_in : Form → List ℕ → Option Kind
kind_in form text = kind_by form (words_in text) (words_said form (words_in text))

abbrev pub packets_by : Result (List Said) Cause → Option PacketSet
packets_by (Ok said) = Some (set_of said)
packets_by (Err cause) = None

-- the packets of a question of the kind
abbrev pub packets_in : Form → List ℕ → Option PacketSet
packets_in form text = packets_by (words_said form (words_in text))
