-- The calls that append a child: what their steps ask, and that the steps in a row are the call.
-- Assumes nothing.
use Rattle.words.specs.declared.TextSlot.{TextSlot}
use Rattle.std.specs.Prelude.{Option, None}
use mathlib.Core.Path.{◌≡◌, refl, sym, ap, ap₂, subst, ◌∙◌}
use mathlib.Core.Bool.{Bool, true, false, ◌&&◌}
use mathlib.Core.List.{List, [], ◌∷◌}
use Prim.Native.Nat.{ℕ, ◌<◌}
use lib.ListN.{length}
use Rattle.words.proofs.Tests.{and_left, and_right}
use Rattle.records.specs.Fields.{CharsFit}
use Rattle.words.specs.declared.NameId.{NameId}
use Rattle.records.specs.declared.NodeData.TheVariants as given
use Rattle.records.specs.declared.Node.{Node}
use Rattle.texts.specs.Pool.{stored, stored_slot, slots_for}
use Rattle.names.specs.Table.{name, number_of, interned}
use Rattle.model.specs.Kinds.{Kind, element, text, comment, instruction, children, is_root}
use Rattle.model.specs.Doc.{Doc, any_option, view_at}
use Rattle.model.specs.Edits.{next_handle}
use Rattle.model.specs.Arguments.{refuse_if, first, not_utf8, name_check, namespace_check, comment_check, instruction_check}
use Rattle.model.specs.Checks.{container, text_under, check_append_element, check_append_text, check_append_comment, check_append_pi}
use Rattle.model.specs.Calls.{Call, append-element, append-text, append-comment, append-pi, made, Out, is_refusal, step, full_unless, text_fits, two_fit, name_fits_in, node_fits, root_taken, appended, appends, append_one_text, with_two, stored_two}
use Rattle.laws.proofs.Guards.{first-zero}
use Rattle.layout.specs.declared.Document.{Document}
use Rattle.memory.specs.Decode.{slot_of, kind_of, decode}
use Rattle.memory.specs.Step.{Step}
use Rattle.memory.specs.Undamaged.{Undamaged}
use Rattle.memory.specs.Performed.{Admitted, Performed}
use Rattle.edits.specs.Slot.{Newborn, Appendable, no_block, new_node}
use Rattle.edits.specs.Pooled.{set_pool, set_names}
use Rattle.edits.specs.Stores.{Storable, TwoStorable, Internable}
use Rattle.edits.proofs.Composed.{step-as}
use Rattle.edits.proofs.Stored.{rules-texts}
use Rattle.edits.proofs.Interned.{rules-names}
use Rattle.edits.proofs.Accepted.{guard-open, checked-room}
use Rattle.edits.proofs.NewNodes.{newborn-element, newborn-text, newborn-comment, newborn-instruction, pool-alone, names-alone, stored-appendable, child-appendable, made-performed}

-- the container is tested right after the bytes
then-container : (D : Doc) (p a b : ℕ) → first a (first (container (view_at D p)) b) ≡ 0 → container (view_at D p) ≡ 0
then-container D p a b e = (first-zero (container (view_at D p)) b (first-zero a (first (container (view_at D p)) b) e).1).0

-- ---- texts and comments

module _ (d : Document) (mem : List ℕ) (pw : ℕ) (t : List ℕ) (u : Undamaged d mem) (k : Option ℕ → Kind ℕ (Option ℕ)) (check : ℕ)
    (box : check ≡ 0 → container (view_at (decode d mem) pw) ≡ 0) (e : is_refusal (append_one_text check (decode d mem) pw k t).answer ≡ false) where
  abbrev D : Doc
  D = decode d mem

  abbrev out : Out
  out = appends D pw (k (stored_slot D.pool t)) (stored D.pool t) D.names

  abbrev fits : Bool
  fits = text_fits D (slots_for t) 0 (length t)

  passed : (check ≡ 0) × ((text_fits (decode d mem) (slots_for t) 0 (length t) && node_fits (decode d mem) children pw) ≡ true)
  passed = checked-room check (fits && node_fits D children pw) D out e

  one-storable : Storable d mem t
  one-storable = record { memory = u.memory; ready = rules-texts D u.rules; room = and_left fits (node_fits D children pw) passed.1 }

  module _ (e₁ : Document) (mem₁ : List ℕ) (s : Step d mem e₁ mem₁ (set_pool (decode d mem) (stored (decode d mem).pool t))) where
    alike : Step d mem e₁ mem₁ (set_pool (set_names (decode d mem) (decode d mem).names) (stored (decode d mem).pool t))
    alike = step-as d mem e₁ mem₁ _ _ s (pool-alone D (stored D.pool t))

    one-appendable : Appendable e₁ mem₁ children pw
    one-appendable =
        stored-appendable d mem children pw (stored D.pool t) D.names e₁ mem₁ alike
        (child-appendable d mem u pw (box passed.0) (and_right fits (node_fits D children pw) passed.1))

    one-performed : (c : Call) → step c (decode d mem) ≡ append_one_text check (decode d mem) pw k t → (m : Node) → kind_of m.«data» ≡ k (stored_slot (decode d mem).pool t)
        → (r : Document) (mem₂ : List ℕ)
        → Step e₁ mem₁ r mem₂ (appended (decode e₁ mem₁) children pw (kind_of m.«data») (decode e₁ mem₁).pool (decode e₁ mem₁).names)
        → (h : ℕ) → h ≡ next_handle (decode e₁ mem₁) → Performed c d mem (made h) r mem₂
    one-performed c q m km r mem₂ z h eh =
        made-performed d mem children pw (stored D.pool t) D.names e₁ mem₁ alike (k (stored_slot D.pool t)) m km r mem₂ z c
        (q ∙ guard-open (first check (full_unless (fits && node_fits D children pw))) D out e) h eh

module _ (d : Document) (mem : List ℕ) (pw : ℕ) (t : List ℕ) (a : Admitted (append-text pw t) d mem) where
  abbrev text-check : ℕ
  text-check = check_append_text t (view_at (decode d mem) pw)

  text-box : check_append_text t (view_at (decode d mem) pw) ≡ 0 → container (view_at (decode d mem) pw) ≡ 0
  text-box z = then-container (decode d mem) pw (not_utf8 (t ∷ [])) (text_under (any_option is_root (view_at (decode d mem) pw)) t) z

  pub text-storable : Storable d mem t
  text-storable = one-storable d mem pw t a.undamaged text text-check text-box a.accepted

  module _ (e₁ : Document) (mem₁ : List ℕ) (s : Step d mem e₁ mem₁ (set_pool (decode d mem) (stored (decode d mem).pool t))) (m : Node) (f : Option TextSlot) (em : m ≡ new_node (given.Text f))
      (q : (slot_of f ≡ stored_slot (decode d mem).pool t) × CharsFit f) where
    pub text-ready : Appendable e₁ mem₁ children pw × Newborn m
    text-ready = (one-appendable d mem pw t a.undamaged text text-check text-box a.accepted e₁ mem₁ s, subst Newborn (sym em) (newborn-text f q.1))

    pub text-performed : (r : Document) (mem₂ : List ℕ) (h : ℕ)
        → Step e₁ mem₁ r mem₂ (appended (decode e₁ mem₁) children pw (kind_of m.«data») (decode e₁ mem₁).pool (decode e₁ mem₁).names) × (h ≡ next_handle (decode e₁ mem₁))
        → Performed (append-text pw t) d mem (made h) r mem₂
    text-performed r mem₂ h z =
        one-performed d mem pw t a.undamaged text text-check text-box a.accepted e₁ mem₁ s (append-text pw t) refl m
        (ap (λ (x : Node). kind_of x.«data») em ∙ ap text q.0) r mem₂ z.0 h z.1

module _ (d : Document) (mem : List ℕ) (pw : ℕ) (t : List ℕ) (a : Admitted (append-comment pw t) d mem) where
  abbrev comment-check : ℕ
  comment-check = check_append_comment t (view_at (decode d mem) pw)

  comment-box : check_append_comment t (view_at (decode d mem) pw) ≡ 0 → container (view_at (decode d mem) pw) ≡ 0
  comment-box z = then-container (decode d mem) pw (not_utf8 (t ∷ [])) (comment_check t) z

  pub comment-storable : Storable d mem t
  comment-storable = one-storable d mem pw t a.undamaged comment comment-check comment-box a.accepted

  module _ (e₁ : Document) (mem₁ : List ℕ) (s : Step d mem e₁ mem₁ (set_pool (decode d mem) (stored (decode d mem).pool t))) (m : Node) (f : Option TextSlot) (em : m ≡ new_node (given.Comment f))
      (q : (slot_of f ≡ stored_slot (decode d mem).pool t) × CharsFit f) where
    pub comment-ready : Appendable e₁ mem₁ children pw × Newborn m
    comment-ready = (one-appendable d mem pw t a.undamaged comment comment-check comment-box a.accepted e₁ mem₁ s, subst Newborn (sym em) (newborn-comment f q.1))

    pub comment-performed : (r : Document) (mem₂ : List ℕ) (h : ℕ)
        → Step e₁ mem₁ r mem₂ (appended (decode e₁ mem₁) children pw (kind_of m.«data») (decode e₁ mem₁).pool (decode e₁ mem₁).names) × (h ≡ next_handle (decode e₁ mem₁))
        → Performed (append-comment pw t) d mem (made h) r mem₂
    comment-performed r mem₂ h z =
        one-performed d mem pw t a.undamaged comment comment-check comment-box a.accepted e₁ mem₁ s (append-comment pw t) refl m
        (ap (λ (x : Node). kind_of x.«data») em ∙ ap comment q.0) r mem₂ z.0 h z.1

-- ---- elements

module _ (d : Document) (mem : List ℕ) (pw : ℕ) (ns local : List ℕ) (a : Admitted (append-element pw ns local) d mem) where
  abbrev D₁ : Doc
  D₁ = decode d mem

  abbrev element-check : ℕ
  element-check = check_append_element ns local (view_at D₁ pw) (root_taken D₁ None)

  abbrev further : ℕ
  further = first (refuse_if (any_option is_root (view_at D₁ pw) && root_taken D₁ None) 12) (first (name_check local) (namespace_check ns))

  abbrev named : Out
  named = appends D₁ pw (element (number_of D₁.names (name ns local))) D₁.pool (interned D₁.names (name ns local))

  element-passed : (check_append_element ns local (view_at (decode d mem) pw) (root_taken (decode d mem) None) ≡ 0)
      × ((name_fits_in (decode d mem) (name ns local) && node_fits (decode d mem) children pw) ≡ true)
  element-passed = checked-room element-check (name_fits_in D₁ (name ns local) && node_fits D₁ children pw) D₁ named a.accepted

  pub element-internable : Internable d mem (name ns local)
  element-internable =
      record {
        memory = a.undamaged.memory;
        ready = rules-names D₁ a.undamaged.rules;
        room = and_left (name_fits_in D₁ (name ns local)) (node_fits D₁ children pw) element-passed.1;
      }

  module _ (e₁ : Document) (mem₁ : List ℕ) (s : Step d mem e₁ mem₁ (set_names (decode d mem) (interned (decode d mem).names (name ns local)))) (m : Node) (n : NameId)
      (em : m ≡ new_node (given.Element n no_block no_block)) (q : (n.0 ≡ number_of (decode d mem).names (name ns local)) × (n.0 < 4294967296)) where
    alike₁ : Step d mem e₁ mem₁ (set_pool (set_names (decode d mem) (interned (decode d mem).names (name ns local))) (decode d mem).pool)
    alike₁ = step-as d mem e₁ mem₁ _ _ s (names-alone D₁ (interned D₁.names (name ns local)))

    pub element-ready : Appendable e₁ mem₁ children pw × Newborn m
    element-ready = (
      stored-appendable d mem children pw D₁.pool (interned D₁.names (name ns local)) e₁ mem₁ alike₁
          (child-appendable d mem a.undamaged pw (then-container D₁ pw (not_utf8 (ns ∷ local ∷ [])) further element-passed.0)
          (and_right (name_fits_in D₁ (name ns local)) (node_fits D₁ children pw) element-passed.1)),
      subst Newborn (sym em) (newborn-element n q.1),
    )

    pub element-performed : (r : Document) (mem₂ : List ℕ) (h : ℕ)
        → Step e₁ mem₁ r mem₂ (appended (decode e₁ mem₁) children pw (kind_of m.«data») (decode e₁ mem₁).pool (decode e₁ mem₁).names) × (h ≡ next_handle (decode e₁ mem₁))
        → Performed (append-element pw ns local) d mem (made h) r mem₂
    element-performed r mem₂ h z =
        made-performed d mem children pw D₁.pool (interned D₁.names (name ns local)) e₁ mem₁ alike₁ (element (number_of D₁.names (name ns local))) m
        (ap (λ (x : Node). kind_of x.«data») em ∙ ap element q.0) r mem₂ z.0 (append-element pw ns local)
        (guard-open (first element-check (full_unless (name_fits_in D₁ (name ns local) && node_fits D₁ children pw))) D₁ named a.accepted) h z.1

-- ---- processing instructions

module _ (d : Document) (mem : List ℕ) (pw : ℕ) (target content : List ℕ) (a : Admitted (append-pi pw target content) d mem) where
  abbrev D₂ : Doc
  D₂ = decode d mem

  abbrev pi-check : ℕ
  pi-check = check_append_pi target content (view_at D₂ pw)

  abbrev both : Out
  both = appends D₂ pw (with_two D₂ instruction target content) (stored_two D₂ target content) D₂.names

  pi-passed : (check_append_pi target content (view_at (decode d mem) pw) ≡ 0) × ((two_fit (decode d mem) target content && node_fits (decode d mem) children pw) ≡ true)
  pi-passed = checked-room pi-check (two_fit D₂ target content && node_fits D₂ children pw) D₂ both a.accepted

  pub pi-storable : TwoStorable d mem target content
  pi-storable =
      record {
        memory = a.undamaged.memory;
        ready = rules-texts D₂ a.undamaged.rules;
        room = and_left (two_fit D₂ target content) (node_fits D₂ children pw) pi-passed.1;
      }

  module _ (e₁ : Document) (mem₁ : List ℕ) (s : Step d mem e₁ mem₁ (set_pool (decode d mem) (stored (stored (decode d mem).pool target) content))) (m : Node) (f g : Option TextSlot)
      (em : m ≡ new_node (given.ProcessingInstruction f g)) (qf : (slot_of f ≡ stored_slot (decode d mem).pool target) × CharsFit f)
      (qg : (slot_of g ≡ stored_slot (stored (decode d mem).pool target) content) × CharsFit g) where
    alike₂ : Step d mem e₁ mem₁ (set_pool (set_names (decode d mem) (decode d mem).names) (stored (stored (decode d mem).pool target) content))
    alike₂ = step-as d mem e₁ mem₁ _ _ s (pool-alone D₂ (stored_two D₂ target content))

    pub pi-ready : Appendable e₁ mem₁ children pw × Newborn m
    pi-ready = (
      stored-appendable d mem children pw (stored_two D₂ target content) D₂.names e₁ mem₁ alike₂
          (child-appendable d mem a.undamaged pw (then-container D₂ pw (not_utf8 (target ∷ content ∷ [])) (instruction_check target content) pi-passed.0)
          (and_right (two_fit D₂ target content) (node_fits D₂ children pw) pi-passed.1)),
      subst Newborn (sym em) (newborn-instruction f g qf.1 qg.1),
    )

    pub pi-performed : (r : Document) (mem₂ : List ℕ) (h : ℕ)
        → Step e₁ mem₁ r mem₂ (appended (decode e₁ mem₁) children pw (kind_of m.«data») (decode e₁ mem₁).pool (decode e₁ mem₁).names) × (h ≡ next_handle (decode e₁ mem₁))
        → Performed (append-pi pw target content) d mem (made h) r mem₂
    pi-performed r mem₂ h z =
        made-performed d mem children pw (stored_two D₂ target content) D₂.names e₁ mem₁ alike₂ (with_two D₂ instruction target content) m
        (ap (λ (x : Node). kind_of x.«data») em ∙ ap₂ instruction qf.0 qg.0) r mem₂ z.0 (append-pi pw target content)
        (guard-open (first pi-check (full_unless (two_fit D₂ target content && node_fits D₂ children pw))) D₂ both a.accepted) h z.1
