-- A walk that was written is read back.
use Rattle.std.proofs.Common.{◌≡◌, ℕ, ◌<◌, ◌^◌, Bool, true, false, cond, List, [], ◌∷◌, ◌++◌, length, map}
use Rattle.std.proofs.Common.{Option, Some, None, option_map, option_and_then, Ok, refl, ap, sym, ◌∙◌}
use Rattle.std.proofs.lemmas.Option.{slice_get_within}
use Rattle.std.specs.Option.{option_map_or}
use Rattle.std.specs.Prelude.{IfSome, codes, decimal}
use Rattle.std.specs.Str.Lossy.{utf8_lossy}
use Rattle.mw_text.specs.declared.address.Addr.{Addr}
use Rattle.ios_ast.specs.declared.file.File.{File}
use Rattle.net_interfaces.specs.declared.interfaces.IfaceId.{IfaceId}
use Rattle.question_lang.specs.declared.question.Question.{Question}
use Rattle.question_lang.specs.declared.question.Start.{Start}
use Rattle.question_lang.specs.declared.walk.End.{End}
use Rattle.question_lang.specs.declared.walk.End.TheVariants.{Delivered, Left, NoRoute, Discarded, DeniedIn, DeniedOut}
use Rattle.question_lang.specs.declared.walk.End.TheVariants.{Loop, Open}
use Rattle.question_lang.specs.declared.walk.Walk.{Walk}
use Rattle.question_lang.specs.Asking.{router_named}
use Rattle.serde_json.specs.Data.{Data, string}
use Rattle.serde_json.specs.Find.{get}
use Rattle.cex_json.specs.Entries.{entry_path, router_in}
use Rattle.cex_json.specs.Fields.{◌>>=◌, absent_or, object_in, required}
use Rattle.cex_json.specs.Json.{array_of, text_of}
use Rattle.cex_json.specs.Parts.{addr_text, end_text, hop_data, iface_name, router_name, walk_data}
use Rattle.cex_json.specs.Reading.{walk_for}
use Rattle.cex_json.specs.Standings.{asks_walk, denied_at, end_alone, end_said, end_with, hop_at, hop_step, iface_in}
use Rattle.cex_json.specs.Standings.{some_walk, walk_at}
use Rattle.cex_json.specs.Writable.{IsAskedWalk, IsEndThere, IsHopThere, IsIfaceThere, IsWritableNet, IsWritableWalk}
use Rattle.cex_json.proofs.Dotted.{addr_back, cut-append}
use Rattle.cex_json.proofs.Named.{are_named, iface_found, is_word}
use Rattle.cex_json.proofs.Places.{all_split}
use Rattle.cex_json.proofs.WrittenLists.{in_order_back}

-- ---- how it ends

-- out of the network
left_back : (files : List File) (a : Addr) → a.0 < 2 ^ 32 → end_said files (end_text files (Left a)) ≡ Some (Left a)
unfolding end_said
left_back files a small =
    ap (λ c. option_map_or (λ (cut : List ℕ × List ℕ). end_with files cut.0 cut.1) c
    (end_alone (end_text files (Left a))))
    (cut-append 32 (codes "left") (addr_text a) refl)
    ∙ ap (option_map (λ x. Left x)) (addr_back a small)

-- at the list of an interface
denied_back : (files : List File) (id : IfaceId) → IsWritableNet files → IsIfaceThere files id.router id.at →
    end_said files (end_text files (DeniedIn id)) ≡ Some (DeniedIn id)
unfolding end_said
denied_back files id net there =
    let router = utf8_lossy (router_name files id.router) in
    let iface = utf8_lossy (iface_name files id.router id.at) in
    let within : id.router < length files = slice_get_within files id.router there.0 there.1 in
    ap (λ c. option_map_or (λ (cut : List ℕ × List ℕ). end_with files cut.0 cut.1) c
    (end_alone (end_text files (DeniedIn id))))
    (cut-append 32 (codes "deniedin") (router ++ 32 ∷ iface) refl)
    ∙ ap (option_and_then (λ (cut : List ℕ × List ℕ). denied_at files (router_named files cut.0) cut.1))
    (cut-append 32 router iface (is_word files id.router net within))
    ∙ ap (λ r. denied_at files r iface) (are_named files net.routers id.router within)
    ∙ ap (option_map (λ at. DeniedIn (record { router = id.router; at = at })))
    (iface_found files id.router id.at net there)

end_back : (files : List File) (end : End) → IsWritableNet files → IsEndThere files end →
    end_said files (end_text files end) ≡ Some end
unfolding end_said
end_back files Delivered net there = refl
end_back files (Left a) net there = left_back files a there
end_back files NoRoute net there = refl
end_back files Discarded net there = refl
end_back files (DeniedIn id) net there = denied_back files id net there
end_back files DeniedOut net there = refl
end_back files Loop net there = refl
end_back files Open net there = refl

-- ---- where it stood

-- what the fields of a router are
got : (files : List File) (hop : Start) (iface : Option ℕ) → hop.iface ≡ iface →
    (get (codes "in") (hop_data files hop) ≡ option_map (λ at. text_of (iface_name files hop.router at)) hop.iface)
    × (get (codes "router") (hop_data files hop) ≡ Some (text_of (router_name files hop.router)))
unfolding hop_data
got files hop None e = rw e (refl, refl)
got files hop (Some at) e = rw e (refl, refl)

hop_object : (files : List File) (hop : Start) → object_in (Some (hop_data files hop)) ≡ Some (hop_data files hop)
unfolding hop_data
hop_object files hop = refl

iface_back : (files : List File) (router : ℕ) (iface : Option ℕ) → IsWritableNet files →
    IfSome iface (IsIfaceThere files router) →
    absent_or (iface_in files (Some router)) (option_map (λ at. text_of (iface_name files router at)) iface)
    ≡ Some iface
iface_back files router None net there = refl
iface_back files router (Some at) net there = ap (option_map (λ x. Some x)) (iface_found files router at net there)

router_back : (files : List File) (hop : Start) → IsWritableNet files → hop.router < length files →
    router_in files (hop_data files hop) ≡ Some hop.router
unfolding router_in
router_back files hop net within =
    rw (got files hop hop.iface refl).1 (are_named files net.routers hop.router within)

hop_back : (files : List File) (hop : Start) (at : List ℕ) → IsWritableNet files → IsHopThere files hop →
    hop_at files at (hop_data files hop) ≡ Ok hop
unfolding hop_at
hop_back files hop at net there =
    rw (router_back files hop net there.0) (rw (got files hop hop.iface refl).0
    (rw (iface_back files hop.router hop.iface net there.1) refl))

step_back : (files : List File) (i : ℕ) (so_far : List Start) (hop : Start) → IsWritableNet files →
    IsHopThere files hop → hop_step files i so_far (hop_data files hop) ≡ Ok (so_far ++ hop ∷ [])
step_back files i so_far hop net there =
    ap (λ o. required (codes "walk/hops/") (decimal i) o
    >>= λ h. hop_at files (entry_path (codes "walk/hops/") i) h >>= λ stood. Ok (so_far ++ stood ∷ []))
    (hop_object files hop)
    ∙ ap (λ r. r >>= λ stood. Ok (so_far ++ stood ∷ []))
    (hop_back files hop (entry_path (codes "walk/hops/") i) net there)

-- ---- the walk

walk_got : (files : List File) (walk : Walk) →
    (get (codes "end") (walk_data files walk) ≡ Some (string (end_text files walk.end)))
    × (get (codes "hops") (walk_data files walk) ≡ Some (array_of (map (hop_data files) walk.hops)))
unfolding walk_data
walk_got files walk = (refl, refl)

walk_object : (files : List File) (walk : Walk) → object_in (Some (walk_data files walk)) ≡ Some (walk_data files walk)
unfolding walk_data
walk_object files walk = refl

walk_back : (files : List File) (walk : Walk) (at : List ℕ) → IsWritableNet files → IsWritableWalk files walk →
    walk_at files at (walk_data files walk) ≡ Ok walk
unfolding walk_at
walk_back files walk at net fits =
    rw (walk_got files walk).0 (rw (end_back files walk.end net fits.end)
    (rw (walk_got files walk).1 (rw (in_order_back (hop_step files) (hop_data files) 0 [] walk.hops
    (λ i before rest hop is. step_back files i before hop net
    (all_split (IsHopThere files) walk.hops fits.hops before rest hop is))) refl)))

-- the walk that a question asks for, and none where it asks for none
pub asked_back : (files : List File) (question : Question) (walk : Option Walk) (d : Data) → IsWritableNet files →
    IsAskedWalk files (asks_walk question.kind) walk → get (codes "walk") d ≡ option_map (walk_data files) walk →
    walk_for files (Some question) d ≡ Ok walk
asked_back files question walk d net asked there = by_kind (asks_walk question.kind) asked where
  shown_back : (shown : Walk) → walk ≡ Some shown → IsWritableWalk files shown → some_walk files d ≡ Ok walk
  shown_back shown is fits =
      ap (λ o. required [] (codes "walk") (object_in o)
      >>= λ o. walk_at files (codes "walk/") o >>= λ read. Ok (Some read))
      (there ∙ ap (option_map (walk_data files)) is)
      ∙ ap (λ o. required [] (codes "walk") o
      >>= λ o. walk_at files (codes "walk/") o >>= λ read. Ok (Some read))
      (walk_object files shown)
      ∙ ap (λ r. r >>= λ read. Ok (Some read)) (walk_back files shown (codes "walk/") net fits)
      ∙ ap (λ o. Ok o) (sym is)

  by_kind : (b : Bool) → IsAskedWalk files b walk → cond b (some_walk files d) (Ok None) ≡ Ok walk
  by_kind false none = ap (λ o. Ok o) (sym none)
  by_kind true shown = shown_back shown.0 shown.1 shown.2
