-- What a story says of a walk.
use Rattle.std.specs.Prelude.{◌≡◌, ℕ, List, [], ◌++◌, MatchOption, map, codes, Option, Some, None}
use Rattle.std.specs.List.{flat_map}
use Rattle.ios_ast.specs.declared.file.File.{File}
use Rattle.question_lang.specs.declared.question.Start.{Start}
use Rattle.question_lang.specs.declared.walk.End.{End}
use Rattle.question_lang.specs.declared.walk.End.TheVariants.{Delivered, Left, NoRoute, Discarded, DeniedIn, DeniedOut}
use Rattle.question_lang.specs.declared.walk.End.TheVariants.{Loop, Open}
use Rattle.question_lang.specs.declared.walk.Walk.{Walk}
use Rattle.cex_json.specs.Parts.{iface_name, router_name}
use Rattle.cex_story.specs.declared.telling.Said.{Said}

-- the words for an end
abbrev pub end_words : End → List ℕ
end_words Delivered = codes "delivered"
end_words (Left a) = codes "left the network"
end_words NoRoute = codes "no route"
end_words Discarded = codes "discarded at Null0"
end_words (DeniedIn i) = codes "denied coming in"
end_words DeniedOut = codes "denied going out"
end_words Loop = codes "a loop"
end_words Open = codes "further on"

-- the interface by which the packet came in, where there is one
abbrev pub in_words : Option ℕ → List ℕ
in_words None = []
in_words (Some at) = codes ", in by "

abbrev pub in_name : List File → Start → List ℕ
in_name files standing = name_of standing.iface where
  name_of : Option ℕ → List ℕ
  name_of None = []
  name_of (Some at) = iface_name files standing.router at

--   at ROUTER, in by INTERFACE; and then what is said of the router
abbrev pub said_text : List File → Said → List ℕ
said_text files said =
    codes "  at " ++ router_name files said.standing.router ++ in_words said.standing.iface
    ++ in_name files said.standing ++ codes "\n" ++ said.text

-- a text tells a walk: its standings one after another, and then its end
abbrev pub TellsWalk : List File → List ℕ → Walk → Type 0
TellsWalk files text walk =
    (front back : List ℕ) × (saids : List Said) × (map (λ said. said.standing) saids ≡ walk.hops)
    × (text ≡ front ++ flat_map (said_text files) saids ++ codes "  end: " ++ end_words walk.end ++ back)

-- a story of a counterexample tells its walk, where it has one
abbrev pub IsStory : List File → Option Walk → List ℕ → Type 0
IsStory files walk text = MatchOption walk (Unit {0}) (TellsWalk files text)
