-- Traces, one router further at a time.
use Rattle.std.proofs.Common.{◌≡◌, ◌⊎◌, ℕ, zero, suc, ◌+◌, ◌<◌, ◌≤◌, ◌&&◌, Bool, true, false, if◌then◌else◌, List, [], ◌∷◌}
use Rattle.std.proofs.Common.{◌++◌, Option, Some, None, inl, inr, length, refl, sym, ap, ◌∙◌, arith}
use Rattle.std.specs.Prelude.{option_and_then}
use Rattle.std.specs.Option.{option_map_or}
use Rattle.std.proofs.lemmas.Bool.{cases_lt}
use Rattle.ios_ast.specs.declared.file.File.{File}
use Rattle.plan_places.proofs.PlaceSteps.{none_above}
use Rattle.route_shapes.specs.Bgp.{BgpShape}
use Rattle.term_store.specs.declared.NodeId.{NodeId}
use Rattle.term_store.specs.Terms.{Reading, at}
use Rattle.sym_policy.specs.Held.{bgp_of}
use Rattle.sym_rib.specs.declared.slots.SymSlot.{SymSlot}
use Rattle.sym_rib.specs.declared.slots.SymTables.{SymTables}
use Rattle.export_asks.specs.declared.ask.AskPeer.{AskPeer}
use Rattle.export_terms.specs.Routes.{node_in, routes_read}
use Rattle.export_terms.specs.Shapes.{comes_from, traced_by}
use Rattle.export_terms.proofs.Chains.{node_before, node_last, node_past}

-- a route that is held where a node is true
pub where_valid : (f : BgpShape → Bool) (b : Bool) (s : BgpShape) →
    (b && f s) ≡ option_map_or f (if b then Some s else None) false
where_valid f true s = refl
where_valid f false s = refl

-- ---- one layer

-- the nodes so far are those of the first routers
abbrev pub AreTraced : (ℕ → Bool) → Reading → List NodeId → ℕ → Type 0
AreTraced traced w nodes count = (r : ℕ) → r < count → node_in w nodes r ≡ traced r

pub traced_more : (traced : ℕ → Bool) (w : Reading) (nodes : List NodeId) (node : NodeId) (count : ℕ) →
    length nodes ≡ count → AreTraced traced w nodes count → at w node ≡ traced count →
    AreTraced traced w (nodes ++ node ∷ []) (count + 1)
traced_more traced w nodes node count long so here r less = by (cases_lt r count)
  where
    by : (r < count) ⊎ (count ≤ r) → node_in w (nodes ++ node ∷ []) r ≡ traced r
    by (inl before) = node_before w nodes node r (omega (arith, before, long)) ∙ so r before
    by (inr past) =
        let same : r ≡ length nodes = omega (arith, less, past, long) in
        ap (node_in w (nodes ++ node ∷ [])) same ∙ node_last w nodes node ∙ here ∙ ap traced (sym long ∙ sym same)

-- ---- layer upon layer

pub comes-zero : (files : List File) (held : ℕ → Option BgpShape) (peer : AskPeer) (router : ℕ) →
    comes_from files held peer zero router ≡ false
unfolding comes_from
comes-zero files held peer router = refl

pub comes-suc : (files : List File) (held : ℕ → Option BgpShape) (peer : AskPeer) (steps router : ℕ) →
    comes_from files held peer (suc steps) router
    ≡ traced_by files peer (comes_from files held peer steps) router (held router)
unfolding comes_from
comes-suc files held peer steps router = refl

pub comes_none : (w : Reading) (files : List File) (held : ℕ → Option BgpShape) (peer : AskPeer) (router : ℕ) →
    node_in w [] router ≡ comes_from files held peer zero router
comes_none w files held peer router = sym (comes-zero files held peer router)

-- no router holds a route whose number is no router's
route_past : (w : Reading) (tables : SymTables) (len router : ℕ) → tables.routers ≤ router →
    routes_read w tables len router ≡ None
route_past w tables len router past =
    ap (option_and_then (λ (s : SymSlot). bgp_of w s.bgp))
    (none_above tables.lens.now tables.slots.now tables.routers router len past)

-- a layer of all routers is one step further
pub comes_more : (w : Reading) (files : List File) (tables : SymTables) (len : ℕ) (peer : AskPeer)
    (before nodes : List NodeId) (steps : ℕ) → tables.routers ≡ length files → length nodes ≡ length files →
    ((r : ℕ) → node_in w before r ≡ comes_from files (routes_read w tables len) peer steps r) →
    AreTraced (λ r. traced_by files peer (node_in w before) r (routes_read w tables len r)) w nodes (length files) →
    (r : ℕ) → node_in w nodes r ≡ comes_from files (routes_read w tables len) peer (steps + 1) r
comes_more w files tables len peer before nodes steps routers long so traced r = by (cases_lt r (length files))
  where
    held : ℕ → Option BgpShape
    held = routes_read w tables len

    one : steps + 1 ≡ suc steps
    one = omega arith

    further : comes_from files held peer (steps + 1) r
        ≡ traced_by files peer (comes_from files held peer steps) r (held r)
    further = ap (λ n. comes_from files held peer n r) one ∙ comes-suc files held peer steps r

    by : (r < length files) ⊎ (length files ≤ r) → node_in w nodes r ≡ comes_from files held peer (steps + 1) r
    by (inl before) = traced r before ∙ (λ i. traced_by files peer (λ k. so k i) r (held r)) ∙ sym further
    by (inr past) =
        node_past w nodes r (omega (arith, past, long))
        ∙ ap (traced_by files peer (comes_from files held peer steps) r)
        (sym (route_past w tables len r (omega (arith, past, routers))))
        ∙ sym further
