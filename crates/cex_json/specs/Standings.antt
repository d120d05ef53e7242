-- A walk, as it is read.
use Rattle.std.specs.Prelude.{ℕ, Bool, true, false, List, [], ◌∷◌, ◌++◌, codes, decimal, position, slice_get, Option}
use Rattle.std.specs.Prelude.{Some, None, option_and_then, option_map, Result, Ok, if◌then◌else◌}
use Rattle.std.specs.Option.{option_map_or}
use Rattle.mw_text.specs.Digits.{addr_of, cut_at}
use Rattle.mw_text.specs.Text.{same_text}
use Rattle.ios_ast.specs.declared.file.File.{File}
use Rattle.question_lang.specs.declared.question.Kind.{Kind}
use Rattle.question_lang.specs.declared.question.Kind.TheVariants.{NoStable}
use Rattle.question_lang.specs.declared.question.Start.{Start}
use Rattle.question_lang.specs.declared.walk.End.{End}
use Rattle.question_lang.specs.declared.walk.End.TheVariants.{Delivered, Left, NoRoute, Discarded, DeniedIn, DeniedOut}
use Rattle.question_lang.specs.declared.walk.End.TheVariants.{Loop, Open}
use Rattle.question_lang.specs.declared.walk.Walk.{Walk}
use Rattle.question_lang.specs.Asking.{router_named}
use Rattle.serde_json.specs.Data.{Data}
use Rattle.serde_json.specs.Find.{get}
use Rattle.cex_json.specs.declared.refused.CexRefused.{CexRefused}
use Rattle.cex_json.specs.Entries.{entry_path, router_in}
use Rattle.cex_json.specs.Fields.{◌>>=◌, absent_or, in_order, members_in, object_in, place_of, required, text_in}

-- the place of the interface of that name; of an unknown router any name will do
unfoldable pub iface_at : File → List ℕ → Option ℕ
iface_at file name = place_of (position (λ iface. same_text iface.name name) file.interfaces)

unfoldable pub iface_named : List File → ℕ → List ℕ → Option ℕ
iface_named files router name = option_and_then (λ file. iface_at file name) (slice_get files router)

abbrev pub iface_or_any : List File → Option ℕ → List ℕ → Option ℕ
iface_or_any files None name = Some 0
iface_or_any files (Some router) name = iface_named files router name

-- ROUTER IF, where the packet was denied
abbrev pub denied_at : List File → Option ℕ → List ℕ → Option End
denied_at files None name = None
denied_at files (Some router) name =
    option_map (λ at. DeniedIn (record { router = router; at = at })) (iface_named files router name)

-- an end of two words or more
abbrev pub end_with : List File → List ℕ → List ℕ → Option End
end_with files word rest =
    if same_text word (codes "left") then option_map (λ a. Left a) (addr_of rest)
    else (if same_text word (codes "deniedin")
    then option_and_then (λ cut. denied_at files (router_named files cut.0) cut.1) (cut_at 32 rest) else None)

-- an end of one word
abbrev pub end_alone : List ℕ → Option End
end_alone word =
    if same_text word (codes "delivered") then Some Delivered
    else (if same_text word (codes "noroute") then Some NoRoute
    else (if same_text word (codes "discarded") then Some Discarded
    else (if same_text word (codes "deniedout") then Some DeniedOut
    else (if same_text word (codes "loop") then Some Loop
    else (if same_text word (codes "open") then Some Open else None)))))

-- how a walk ends
unfoldable pub end_said : List File → List ℕ → Option End
end_said files word = option_map_or (λ cut. end_with files cut.0 cut.1) (cut_at 32 word) (end_alone word)

-- the interface at which the packet came in; it is absent at a start
abbrev pub iface_in : List File → Option ℕ → Option Data → Option ℕ
iface_in files router found = option_and_then (iface_or_any files router) (text_in found)

-- where the packet stands
unfoldable pub hop_at : List File → List ℕ → Data → Result Start CexRefused
hop_at files at d = do
  iface ← required at (codes "in") (absent_or (iface_in files (router_in files d)) (get (codes "in") d))
  router ← required at (codes "router") (router_in files d)
  Ok (record { router = router; iface = iface })

abbrev pub hop_step : List File → ℕ → List Start → Data → Result (List Start) CexRefused
hop_step files i so_far d = do
  hop ← required (codes "walk/hops/") (decimal i) (object_in (Some d))
  stood ← hop_at files (entry_path (codes "walk/hops/") i) hop
  Ok (so_far ++ stood ∷ [])

unfoldable pub walk_at : List File → List ℕ → Data → Result Walk CexRefused
walk_at files at d = do
  end ← required at (codes "end") (option_and_then (end_said files) (text_in (get (codes "end") d)))
  members ← members_in at (codes "hops") d
  hops ← in_order (hop_step files) 0 [] members
  Ok (record { hops = hops; end = end })

abbrev pub some_walk : List File → Data → Result (Option Walk) CexRefused
some_walk files d =
    required [] (codes "walk") (object_in (get (codes "walk") d)) >>= λ o.
    walk_at files (codes "walk/") o >>= λ walk. Ok (Some walk)

-- a question whether there is a stable routing asks for no walk
abbrev pub asks_walk : Kind → Bool
asks_walk NoStable = false
asks_walk _ = true

-- the walk, where the question asks for one
abbrev pub walk_in : List File → Kind → Data → Result (Option Walk) CexRefused
walk_in files kind d = if asks_walk kind then some_walk files d else Ok None
