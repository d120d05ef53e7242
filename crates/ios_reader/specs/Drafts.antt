-- A file as far as its lines have been read.
use Rattle.std.specs.Prelude.{false, [], None}
use Rattle.ios_policy_reader.specs.declared.policies.PolicyBlock.TheVariants.{Outside}
use Rattle.ios_reader.specs.declared.draft.Block.TheVariants.{Closed}
use Rattle.ios_reader.specs.declared.draft.Draft.{Draft}

-- nothing is read yet
abbrev pub empty_draft : Draft
empty_draft = record {
  file = record {
    hostname = [];
    hostname_line = 0;
    interfaces = [];
    statics = [];
    ospf = None;
    bgp = None;
    policies = record { prefix_lists = []; communities = []; as_paths = []; access = []; maps = [] };
  };
  block = Closed;
  policy_block = Outside;
  seen = record { address = false; bandwidth = false; router_id = false; reference = false };
  banner = None;
}

-- no block is open
abbrev pub closed : Draft → Draft
closed draft = record draft { block = Closed; policy_block = Outside }
