-- A replaced text: what its steps ask, and that the steps in a row are the model's change.
-- Assumes nothing.
use Rattle.std.proofs.lemmas.Option.{none-some}
use Rattle.std.specs.Prelude.{Option, None, Some}
use mathlib.Core.Path.{◌≡◌, refl, sym, ap, ap₂, subst, ◌∙◌}
use mathlib.Core.Bool.{Bool, true, cond}
use mathlib.Core.List.{List, [], ◌∷◌, Memᴰ}
use Prim.Native.Nat.{ℕ, ◌<◌}
use native.Mathlib.Omega.{arith}
use native.Mathlib.Decide.{dec_lt}
use lib.ListN.{length, set}
use lib.Dec.{eqb}
use Rattle.words.specs.Lists.{count_of}
use Rattle.words.proofs.Tests.{and_left}
use Rattle.records.specs.Handles.{handle_index, handle_generation, word_of}
use Rattle.records.specs.declared.NodeId.{NodeId}
use Rattle.words.specs.declared.TextSlot.{TextSlot}
use Rattle.records.specs.declared.Node.{Node}
use Rattle.texts.specs.Pool.{Pool, stored, stored_slot, replaced}
use Rattle.texts.proofs.Pool.{replaced-none}
use Rattle.model.specs.Kinds.{Kind, root, element, attribute, text, comment, namespace, instruction, texts_of, replaceable, with_text}
use Rattle.model.specs.Doc.{Doc, change_nodes, change_pool, or_else, generation_at, live_slot, kind_in, kind_at, view_at}
use Rattle.model.specs.Rules.{Rules, slots_held, held_in, held}
use Rattle.model.specs.Edits.{set_kind}
use Rattle.model.specs.Arguments.{first, not_utf8}
use Rattle.model.specs.Checks.{a_text, text_under, check_set_text}
use Rattle.model.specs.Calls.{set-text, done, Out, answers, full_unless, under_root, replacement_fits, replaceable_at, with_replaced}
use Rattle.laws.proofs.Basics.{mem-count, live-node, live-below}
use Rattle.laws.proofs.Counting.{below, below-mem}
use Rattle.laws.proofs.Membership.{mem-joined}
use Rattle.laws.proofs.Shown.{held-here, held-there}
use Rattle.laws.proofs.Guards.{first-zero}
use Rattle.layout.specs.declared.Document.{Document}
use Rattle.memory.specs.Decode.{slot_of, kind_of, loaded_at, slots_part, pool_in, names_in, lengths_add, decode}
use Rattle.memory.specs.Step.{Step}
use Rattle.memory.specs.Performed.{Admitted, Performed}
use Rattle.memory.proofs.Shaped.{shape}
use Rattle.edits.specs.Asked.{NodeHeld}
use Rattle.edits.specs.Pooled.{set_pool}
use Rattle.edits.specs.Stores.{Storable}
use Rattle.edits.specs.Replacing.{Overwritable, Replaceable}
use Rattle.edits.proofs.Composed.{step-as, step-memory, step-next}
use Rattle.edits.proofs.Moved.{kind-loaded}
use Rattle.edits.proofs.Ready.{rules-node}
use Rattle.edits.proofs.Stored.{rules-texts}
use Rattle.edits.proofs.Fields.{set-kept}
use Rattle.edits.proofs.Accepted.{guard-open, checked-room, text-there, performed}

-- ---- the slot of a text that can be replaced

text-held : (k : Kind ℕ (Option ℕ)) (s : ℕ) → or_else None (replaceable k) ≡ Some s → Memᴰ s (slots_held (texts_of k))
text-held root s e = absurd (none-some s e)
text-held (element n) s e = absurd (none-some s e)
text-held (attribute n v) s e = held-here v [] s e
text-held (text t) s e = held-here t [] s e
text-held (comment t) s e = absurd (none-some s e)
text-held (namespace p u) s e = held-there p (u ∷ []) s (held-here u [] s e)
text-held (instruction t c) s e = absurd (none-some s e)

-- it stays where it is
text_same : (k : Kind ℕ (Option ℕ)) (s : ℕ) → or_else None (replaceable k) ≡ Some s → with_text k (Some s) ≡ k
text_same root s e = refl
text_same (element n) s e = refl
text_same (attribute n v) s e = ap (attribute n) (sym e)
text_same (text t) s e = ap text (sym e)
text_same (comment t) s e = refl
text_same (namespace p u) s e = ap (namespace p) (sym e)
text_same (instruction t c) s e = refl

-- rule 8: a slot that a live node holds is one that was made
slot-inside : (D : Doc) → Rules D → (i s : ℕ) → live_slot D i ≡ true → Memᴰ s (slots_held (texts_of (kind_in D i))) → s < length D.pool.texts
slot-inside D r i s l m = go (dec_lt s (length D.pool.texts))
  where
    here : Memᴰ s (held_in D i)
    here = subst (λ (b : Bool). Memᴰ s (cond b (slots_held (texts_of (kind_in D i))) [])) (sym l) m

    there : 0 < count_of (eqb s) (held D)
    there = mem-count s (held D) (mem-joined (held_in D) (below (length D.gens)) (below-mem (length D.gens) i (live-below D i l)) here)

    go : Dec (s < length D.pool.texts) → s < length D.pool.texts
    go (yes b) = b
    go (no b) = absurd (omega (arith, there, r.texts.inside s (omega arith)))

-- ---- a text stored empty gets a slot

module _ (d : Document) (mem : List ℕ) (h : ℕ) (t : List ℕ) (e : Document) (mem₁ : List ℕ) (a : Step d mem e mem₁ (set_pool (decode d mem) (stored (decode d mem).pool t))) where
  abbrev Q : Pool
  Q = stored (decode d mem).pool t

  live_same : live_slot (set_pool (decode d mem) (stored (decode d mem).pool t)) (handle_index h) ≡ live_slot (decode d mem) (handle_index h)
  unfolding set_pool
  live_same = refl

  pub fill-node : NodeHeld d mem h → NodeHeld e mem₁ h
  fill-node n =
      record {
        memory = step-memory d mem e mem₁ (set_pool (decode d mem) Q) a n.memory;
        live = ap (λ (x : Doc). live_slot x (handle_index h)) a.document ∙ live_same ∙ n.live;
      }

  fill-same : (x : Option ℕ) → set_kind (set_pool (decode d mem) (stored (decode d mem).pool t)) h (with_text (kind_at (set_pool (decode d mem) (stored (decode d mem).pool t)) h) x) (set_pool (decode d mem) (stored (decode d mem).pool t)).pool
      ≡ set_kind (decode d mem) h (with_text (kind_at (decode d mem) h) x) (stored (decode d mem).pool t)
  unfolding set_pool set_kind
  fill-same x = refl

  pub fill_step : (f : Option TextSlot) → slot_of f ≡ stored_slot (decode d mem).pool t → (r : Document) (mem₂ : List ℕ)
      → Step e mem₁ r mem₂ (set_kind (decode e mem₁) h (with_text (kind_at (decode e mem₁) h) (slot_of f)) (decode e mem₁).pool)
      → Step d mem r mem₂ (with_replaced (decode d mem) h None t)
  fill_step f q r mem₂ b =
      step-as d mem r mem₂ _ (with_replaced (decode d mem) h None t)
      (step-next d mem e mem₁ (set_pool (decode d mem) Q) a (λ (x : Doc). set_kind x h (with_text (kind_at x h) (slot_of f)) x.pool) r mem₂ b)
      (fill-same (slot_of f)
      ∙ ap₂ (λ (x : Option ℕ) (p : Pool). set_kind (decode d mem) h (with_text (kind_at (decode d mem) h) x) p) q (sym (replaced-none (decode d mem).pool t)))

-- ---- a text with a slot keeps it

kind-kept : (D : Doc) (h : ℕ) (k : Kind ℕ (Option ℕ)) (p : Pool) → set D.kinds (handle_index h) (Some k) ≡ D.kinds → set_pool D p ≡ set_kind D h k p
unfolding set_pool set_kind
kind-kept D h k p e = λ i. change_pool (change_nodes D (sym e i) D.parents D.ranges) p

module _ (d : Document) (mem : List ℕ) (h : ℕ) (t : List ℕ) (r : Replaceable d mem h t) where
  abbrev D : Doc
  D = decode d mem

  live_here : live_slot (decode d mem) (handle_index h) ≡ true
  live_here = and_left (live_slot D (handle_index h)) (eqb (generation_at D (handle_index h)) (handle_generation h)) r.live

  pub replaced-node : NodeHeld d mem h
  replaced-node = rules-node d mem r.undamaged.memory r.undamaged.rules h r.live

  -- the field is empty
  module _ (q : replaceable_at (decode d mem) h ≡ None) where
    empty-storable : Storable d mem t
    empty-storable =
        record {
          memory = r.undamaged.memory;
          ready = rules-texts D r.undamaged.rules;
          room = ap (λ (x : Option ℕ). replacement_fits D x t) (sym q) ∙ r.room;
        }

    empty-as : (e : Document) (mem' : List ℕ) → Step d mem e mem' (with_replaced (decode d mem) h None t) → Step d mem e mem' (with_replaced (decode d mem) h (replaceable_at (decode d mem) h) t)
    empty-as e mem' s = step-as d mem e mem' (with_replaced D h None t) (with_replaced D h (replaceable_at D h) t) s (ap (λ (x : Option ℕ). with_replaced D h x t) (sym q))

  -- it has a slot
  module _ (s : ℕ) (q : replaceable_at (decode d mem) h ≡ Some s) where
    slot-overwritable : Overwritable d mem s t
    slot-overwritable =
        record {
          memory = r.undamaged.memory;
          counts = r.undamaged.rules.fields.counts;
          lengths = r.undamaged.rules.texts.lengths;
          there = slot-inside D r.undamaged.rules (handle_index h) s live_here (text-held (kind_at D h) s q);
          room = ap (λ (x : Option ℕ). replacement_fits D x t) (sym q) ∙ r.room;
        }

    kinds_kept : set (decode d mem).kinds (handle_index h) (Some (with_text (kind_at (decode d mem) h) (Some s))) ≡ (decode d mem).kinds
    kinds_kept =
        let z = shape (pool_in d mem) (names_in d mem) (lengths_add d mem) d mem r.undamaged.memory in
        set-kept D.kinds (handle_index h) None (Some (with_text (kind_at D h) (Some s))) (omega (arith, z.kinds, live-below D (handle_index h) live_here))
        (live-node D (handle_index h) live_here ∙ ap Some (sym (text_same (kind_at D h) s q)))

    slot-as : (e : Document) (mem' : List ℕ) → Step d mem e mem' (set_pool (decode d mem) (replaced (decode d mem).pool (Some s) t))
        → Step d mem e mem' (with_replaced (decode d mem) h (replaceable_at (decode d mem) h) t)
    slot-as e mem' a =
        step-as d mem e mem' (set_pool D (replaced D.pool (Some s) t)) (with_replaced D h (replaceable_at D h) t) a
        (kind-kept D h (with_text (kind_at D h) (Some s)) (replaced D.pool (Some s) t) kinds_kept ∙ ap (λ (x : Option ℕ). with_replaced D h x t) (sym q))

-- ---- the field as the code reads it

module _ (d : Document) (mem : List ℕ) (id : NodeId) (hi : id.index < 4294967296) (t : List ℕ) (r : Replaceable d mem (word_of id) t)
    (m : Node) (e : loaded_at d.limits.nodes (slots_part d mem) id.index ≡ Some m) (f : Option TextSlot) (k : slot_of f ≡ or_else None (replaceable (kind_of m.«data»))) where
  field_is : replaceable_at (decode d mem) (word_of id) ≡ slot_of f
  field_is =
      ap (λ (x : Kind ℕ (Option ℕ)). or_else None (replaceable x)) (kind-loaded d mem id hi (replaced-node d mem (word_of id) t r) m e) ∙ sym k

  pub empty-ready : f ≡ None → NodeHeld d mem (word_of id) × Storable d mem t
  empty-ready q = (replaced-node d mem (word_of id) t r, empty-storable d mem (word_of id) t r (field_is ∙ ap slot_of q))

  pub empty-step : f ≡ None → (e₁ : Document) (mem₁ : List ℕ) → Step d mem e₁ mem₁ (with_replaced (decode d mem) (word_of id) None t)
      → Step d mem e₁ mem₁ (with_replaced (decode d mem) (word_of id) (replaceable_at (decode d mem) (word_of id)) t)
  empty-step q e₁ mem₁ s = empty-as d mem (word_of id) t r (field_is ∙ ap slot_of q) e₁ mem₁ s

  pub slot-ready : (s : TextSlot) → f ≡ Some s → Overwritable d mem s.0 t
  slot-ready s q = slot-overwritable d mem (word_of id) t r s.0 (field_is ∙ ap slot_of q)

  pub slot_step : (s : TextSlot) → f ≡ Some s → (e₁ : Document) (mem₁ : List ℕ) → Step d mem e₁ mem₁ (set_pool (decode d mem) (replaced (decode d mem).pool (Some s.0) t))
      → Step d mem e₁ mem₁ (with_replaced (decode d mem) (word_of id) (replaceable_at (decode d mem) (word_of id)) t)
  slot_step s q e₁ mem₁ a = slot-as d mem (word_of id) t r s.0 (field_is ∙ ap slot_of q) e₁ mem₁ a

-- ---- set_text

module _ (d : Document) (mem : List ℕ) (h : ℕ) (t : List ℕ) (a : Admitted (set-text h t) d mem) where
  abbrev D₀ : Doc
  D₀ = decode d mem

  abbrev check : ℕ
  check = check_set_text t (view_at D₀ h) (under_root D₀ h)

  abbrev fits : Bool
  fits = replacement_fits D₀ (replaceable_at D₀ h) t

  abbrev out : Out
  out = answers (with_replaced D₀ h (replaceable_at D₀ h) t) done

  pub set-ready : Replaceable d mem h t
  set-ready =
      let z = checked-room check fits D₀ out a.accepted in
      let y = first-zero (a_text (view_at D₀ h)) (text_under (under_root D₀ h) t) (first-zero (not_utf8 (t ∷ [])) (first (a_text (view_at D₀ h)) (text_under (under_root D₀ h) t)) z.0).1 in
      record { undamaged = a.undamaged; live = (text-there D₀ h y.0).0; room = z.1 }

  pub set-performed : (r : Document) (mem' : List ℕ) → Step d mem r mem' (with_replaced (decode d mem) h (replaceable_at (decode d mem) h) t) → Performed (set-text h t) d mem done r mem'
  set-performed r mem' s = performed (set-text h t) d mem out (guard-open (first check (full_unless fits)) D₀ out a.accepted) done refl r mem' s
