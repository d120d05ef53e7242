-- What the match lines of a route map test, by the lists that they name.
use Rattle.std.specs.Prelude.{ℕ, ◌==◌, ◌&&◌, ◌||◌, not, Bool, false, List}
use Rattle.std.specs.List.{find, list_any}
use Rattle.std.specs.Option.{option_map_or}
use Rattle.mw_text.specs.declared.address.Prefix.{Prefix}
use Rattle.mw_text.specs.Text.{same_text}
use Rattle.ios_ast.specs.declared.file.Use.{Use}
use Rattle.ios_ast.specs.declared.policies.Match.{Match}
use Rattle.ios_ast.specs.declared.policies.Match.TheVariants.{Access, Prefixes, Communities, Paths}
use Rattle.ios_ast.specs.declared.policies.Policies.{Policies}
use Rattle.ios_ast.specs.Communities.{communities_permitted}
use Rattle.ios_ast.specs.Packets.{Header, packet_permitted}
use Rattle.ios_ast.specs.Paths.{path_permitted}
use Rattle.ios_ast.specs.Prefixes.{prefix_permitted}

-- the answer of the list of that name; a list that is not there denies
abbrev pub named_answer : {L : Type 0} → (L → List ℕ) → (L → Bool) → List L → List ℕ → Bool
named_answer name answer lists wanted = option_map_or answer (find (λ l. same_text (name l) wanted) lists) false

-- the packet by which access lists test a prefix: from its network address, and all else 0
abbrev pub header_of_prefix : Prefix → Header
header_of_prefix p = record { src = p.addr.0; dst = 0; proto = 0; sport = 0; dport = 0 }

abbrev pub access_named : Policies → Prefix → Use → Bool
access_named policies p named =
    named_answer (λ l. l.name) (λ l. packet_permitted l.entries (header_of_prefix p)) policies.access named.name

abbrev pub prefixes_named : Policies → Prefix → Use → Bool
prefixes_named policies p named =
    named_answer (λ l. l.name) (λ l. prefix_permitted l.entries p) policies.prefix_lists named.name

abbrev pub communities_named : Policies → List ℕ → Use → Bool
communities_named policies communities named =
    named_answer (λ l. l.name) (λ l. communities_permitted l.entries communities) policies.communities named.name

abbrev pub paths_named : Policies → List ℕ → Use → Bool
paths_named policies path named =
    named_answer (λ l. l.name) (λ l. path_permitted l.entries path) policies.as_paths named.name

-- the names of the lists of a match line
abbrev pub names_of : Match → List Use
names_of (Access names) = names
names_of (Prefixes names) = names
names_of (Communities names) = names
names_of (Paths names) = names

-- whether the list of that name and of the line's kind permits the route
abbrev pub list_permits : Policies → Prefix → (path communities : List ℕ) → Match → Use → Bool
list_permits policies p path communities (Access names) named = access_named policies p named
list_permits policies p path communities (Prefixes names) named = prefixes_named policies p named
list_permits policies p path communities (Communities names) named = communities_named policies communities named
list_permits policies p path communities (Paths names) named = paths_named policies path named

-- a match line holds where one of the lists that it names permits the route
abbrev pub line_holds : Policies → Prefix → (path communities : List ℕ) → Match → Bool
line_holds policies p path communities line = list_any (list_permits policies p path communities line) (names_of line)

-- the kind of a match line. An access list and prefix lists are two kinds
abbrev pub kind_of : Match → ℕ
kind_of (Access names) = 0
kind_of (Prefixes names) = 1
kind_of (Communities names) = 2
kind_of (Paths names) = 3

-- some line of that kind holds
abbrev pub kind_holds : (Match → Bool) → List Match → ℕ → Bool
kind_holds holds lines kind = list_any (λ line. (kind_of line == kind) && holds line) lines

-- some line is of that kind
abbrev pub asks : List Match → ℕ → Bool
asks lines kind = list_any (λ line. kind_of line == kind) lines

-- lines of one kind are alternatives: where there are any, one holds
abbrev pub kind_passes : (Match → Bool) → List Match → ℕ → Bool
kind_passes holds lines kind = not (asks lines kind) || kind_holds holds lines kind

-- all match lines hold
abbrev pub lines_hold : (Match → Bool) → List Match → Bool
lines_hold holds lines =
    (kind_passes holds lines 0 && kind_passes holds lines 1) && (kind_passes holds lines 2 && kind_passes holds lines 3)
