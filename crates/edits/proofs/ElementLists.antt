-- The calls that set an attribute or declare a namespace: what their steps ask, and that the steps in a row are the call.
-- Assumes nothing.
use Rattle.words.specs.declared.TextSlot.{TextSlot}
use Rattle.std.specs.Prelude.{Option, None, Some}
use mathlib.Core.Path.{◌≡◌, refl, sym, ap, ap₂, subst, ◌∙◌}
use mathlib.Core.Bool.{Bool, true, false, ◌&&◌, cond}
use mathlib.Core.List.{List, [], ◌∷◌, Memᴰ}
use Prim.Native.Nat.{ℕ, ◌<◌}
use lib.ListN.{length}
use lib.Dec.{eqb}
use Rattle.words.proofs.Tests.{and_left, and_right}
use Rattle.records.specs.Fields.{CharsFit}
use Rattle.records.specs.Handles.{handle_index, handle_generation}
use Rattle.words.specs.declared.NameId.{NameId}
use Rattle.records.specs.declared.NodeData.TheVariants as given
use Rattle.records.specs.declared.Node.{Node}
use Rattle.texts.specs.Pool.{Pool, stored, stored_slot, slots_for}
use Rattle.names.specs.Table.{Name, name, number_of, interned}
use Rattle.model.specs.Kinds.{attribute, namespace, Which, attributes, namespaces}
use Rattle.model.specs.Doc.{Doc, is_some, generation_at, live_slot, resolves, list_at, view_at}
use Rattle.model.specs.Edits.{next_handle}
use Rattle.model.specs.Rules.{Rules}
use Rattle.model.specs.Arguments.{refuse_if, first, not_utf8, name_check, namespace_check, text_check, is_xmlns}
use Rattle.model.specs.Checks.{an_element, is_empty, check_set_attribute, declaration_check, check_declare_namespace}
use Rattle.model.specs.Calls.{set-attribute, declare-namespace, done, made, Out, answers, is_refusal, guarded, step, full_unless, text_fits, two_fit, name_fits_in, node_fits, replacement_fits, replaceable_at, with_replaced, with_two, stored_two, appended, has_name, has_prefix, find_attribute, find_namespace, set_attribute_found, declare_namespace_found}
use Rattle.laws.proofs.Guards.{first-zero}
use Rattle.laws.proofs.Membership.{find-some}
use Rattle.layout.specs.declared.Document.{Document}
use Rattle.memory.specs.Decode.{slot_of, kind_of, decode}
use Rattle.memory.specs.Step.{Step}
use Rattle.memory.specs.Performed.{Admitted, Performed}
use Rattle.edits.specs.Slot.{Newborn, Appendable, new_node}
use Rattle.edits.specs.Pooled.{set_pool, set_names}
use Rattle.edits.specs.Stores.{TextsReady, Storable, TwoStorable, Internable}
use Rattle.edits.specs.Replacing.{Replaceable}
use Rattle.edits.proofs.Composed.{step-as, step-memory, step-next}
use Rattle.edits.proofs.Stored.{rules-texts}
use Rattle.edits.proofs.Interned.{rules-names}
use Rattle.edits.proofs.Accepted.{guard_passed, guard-open, room-left, element-there, performed}
use Rattle.edits.proofs.NewNodes.{newborn-attribute, newborn-namespace, pool-alone, stored-appendable, element-appendable, made-performed, done-performed}

-- ---- a name interned, then a text stored

module _ (d : Document) (mem : List ℕ) (n : Name) (t : List ℕ) (i : Internable d mem n) (s : Storable d mem t) (e : Document) (mem₁ : List ℕ)
    (a : Step d mem e mem₁ (set_names (decode d mem) (interned (decode d mem).names n))) where
  abbrev E : Doc
  E = set_names (decode d mem) (interned (decode d mem).names n)

  ready-there : TextsReady (set_names (decode d mem) (interned (decode d mem).names n))
  unfolding set_names
  ready-there = record { counts = s.ready.counts; lengths = s.ready.lengths; free = s.ready.free; once = s.ready.once }

  fits-there : text_fits (set_names (decode d mem) (interned (decode d mem).names n)) (slots_for t) 0 (length t) ≡ true
  unfolding set_names
  fits-there = s.room

  pool-there : (set_names (decode d mem) (interned (decode d mem).names n)).pool ≡ (decode d mem).pool
  unfolding set_names
  pool-there = refl

  pub value-storable : Storable e mem₁ t
  value-storable =
      record {
        memory = step-memory d mem e mem₁ E a s.memory;
        ready = subst TextsReady (sym a.document) ready-there;
        room = ap (λ (x : Doc). text_fits x (slots_for t) 0 (length t)) a.document ∙ fits-there;
      }

  pub attribute-step : (r : Document) (mem₂ : List ℕ) → Step e mem₁ r mem₂ (set_pool (decode e mem₁) (stored (decode e mem₁).pool t))
      → Step d mem r mem₂ (set_pool (set_names (decode d mem) (interned (decode d mem).names n)) (stored (decode d mem).pool t))
  attribute-step r mem₂ b =
      step-as d mem r mem₂ (set_pool E (stored E.pool t)) (set_pool E (stored (decode d mem).pool t))
      (step-next d mem e mem₁ E a (λ (x : Doc). set_pool x (stored x.pool t)) r mem₂ b)
      (ap (λ (p : Pool). set_pool E (stored p t)) pool-there)

  pub value-field : (f : Option TextSlot) → slot_of f ≡ stored_slot (decode e mem₁).pool t → slot_of f ≡ stored_slot (decode d mem).pool t
  value-field f q = q ∙ ap (λ (p : Pool). stored_slot p t) (ap (λ (x : Doc). x.pool) a.document ∙ pool-there)

-- ---- the checks, then what was found, then Full

pub record Found (D : Doc) (check : ℕ) (whole out : Out) : Type 0 where
  pub checked : check ≡ 0
  pub same : whole ≡ out
  pub accepted : is_refusal out.answer ≡ false

found : (D : Doc) (check : ℕ) (f : Option ℕ → Out) (x y : Option ℕ) → x ≡ y → is_refusal (guarded check D (f x)).answer ≡ false → Found D check (guarded check D (f x)) (f y)
found D check f x y q e =
    let s = guard-open check D (f x) e ∙ ap f q in
    record { checked = guard_passed check D (f x) e; same = s; accepted = sym (ap (λ (o : Out). is_refusal o.answer) s) ∙ e }

then-element : (D : Doc) (h a b : ℕ) → first a (first (an_element (view_at D h)) b) ≡ 0 → an_element (view_at D h) ≡ 0
then-element D h a b e = (first-zero (an_element (view_at D h)) b (first-zero a (first (an_element (view_at D h)) b) e).1).0

-- rule 4: what stands in a live node's list is live
entry-live : (D : Doc) → Rules D → (w : Which) (h x : ℕ) → resolves D h ≡ true → Memᴰ x (list_at D w h) → resolves D x ≡ true
entry-live D r w h x e m = (r.entries.no_other w (handle_index h) x (and_left (live_slot D (handle_index h)) (eqb (generation_at D (handle_index h)) (handle_generation h)) e) m).0

-- ---- set_attribute

module _ (d : Document) (mem : List ℕ) (el : ℕ) (ns local value : List ℕ) (a : Admitted (set-attribute el ns local value) d mem) where
  abbrev D : Doc
  D = decode d mem

  abbrev n : Name
  n = name ns local

  abbrev check : ℕ
  check = check_set_attribute ns local value (view_at D el) (is_some (find_attribute D el n))

  abbrev further : ℕ
  further =
      first (namespace_check ns)
      (first (refuse_if (is_empty ns && is_xmlns local) 2) (first (text_check value) (cond (is_some (find_attribute D el n)) 0 (name_check local))))

  abbrev doing : Option ℕ → Out
  doing o = set_attribute_found o D el n value

  element-set : check_set_attribute ns local value (view_at (decode d mem) el) (is_some (find_attribute (decode d mem) el (name ns local))) ≡ 0 → an_element (view_at (decode d mem) el) ≡ 0
  element-set z = then-element D el (not_utf8 (ns ∷ local ∷ value ∷ [])) further z

  -- a new one
  module _ (q : find_attribute (decode d mem) el (name ns local) ≡ None) where
    abbrev fits : Bool
    fits = text_fits D (slots_for value) 0 (length value) && node_fits D attributes el

    abbrev added : Out
    added = answers (appended D attributes el (attribute (number_of D.names n) (stored_slot D.pool value)) (stored D.pool value) (interned D.names n)) done

    absent : Found (decode d mem) check (step (set-attribute el ns local value) (decode d mem)) (set_attribute_found None (decode d mem) el (name ns local) value)
    absent = found D check doing (find_attribute D el n) None q a.accepted

    room : (name_fits_in (decode d mem) (name ns local) && (text_fits (decode d mem) (slots_for value) 0 (length value) && node_fits (decode d mem) attributes el)) ≡ true
    room = room-left (name_fits_in D n && fits) (guard_passed (full_unless (name_fits_in D n && fits)) D added absent.accepted)

    pub attribute-stores : Internable d mem (name ns local) × Storable d mem value
    attribute-stores = (
      record { memory = a.undamaged.memory; ready = rules-names D a.undamaged.rules; room = and_left (name_fits_in D n) fits room },
      record {
        memory = a.undamaged.memory;
        ready = rules-texts D a.undamaged.rules;
        room = and_left (text_fits D (slots_for value) 0 (length value)) (node_fits D attributes el) (and_right (name_fits_in D n) fits room);
      },
    )

    module _ (e : Document) (mem₁ : List ℕ) (s : Step d mem e mem₁ (set_pool (set_names (decode d mem) (interned (decode d mem).names (name ns local))) (stored (decode d mem).pool value)))
        (m : Node) (i : NameId) (f : Option TextSlot) (em : m ≡ new_node (given.Attr i f)) (qi : (i.0 ≡ number_of (decode d mem).names (name ns local)) × (i.0 < 4294967296))
        (qf : (slot_of f ≡ stored_slot (decode d mem).pool value) × CharsFit f) where
      pub attribute-ready : Appendable e mem₁ attributes el × Newborn m
      attribute-ready = (
        stored-appendable d mem attributes el (stored D.pool value) (interned D.names n) e mem₁ s
            (element-appendable d mem a.undamaged el attributes refl (element-set absent.checked)
            (and_right (text_fits D (slots_for value) 0 (length value)) (node_fits D attributes el) (and_right (name_fits_in D n) fits room))),
        subst Newborn (sym em) (newborn-attribute i f qi.1 qf.1),
      )

      pub attribute-performed : (r : Document) (mem₂ : List ℕ)
          → Step e mem₁ r mem₂ (appended (decode e mem₁) attributes el (kind_of m.«data») (decode e mem₁).pool (decode e mem₁).names)
          → Performed (set-attribute el ns local value) d mem done r mem₂
      attribute-performed r mem₂ z =
          done-performed d mem attributes el (stored D.pool value) (interned D.names n) e mem₁ s (attribute (number_of D.names n) (stored_slot D.pool value)) m
          (ap (λ (x : Node). kind_of x.«data») em ∙ ap₂ attribute qi.0 qf.0) r mem₂ z (set-attribute el ns local value)
          (absent.same ∙ guard-open (full_unless (name_fits_in D n && fits)) D added absent.accepted)

  -- another value
  module _ (x : ℕ) (q : find_attribute (decode d mem) el (name ns local) ≡ Some x) where
    abbrev changed : Out
    changed = answers (with_replaced D x (replaceable_at D x) value) done

    there : Found (decode d mem) check (step (set-attribute el ns local value) (decode d mem)) (set_attribute_found (Some x) (decode d mem) el (name ns local) value)
    there = found D check doing (find_attribute D el n) (Some x) q a.accepted

    pub value-replaceable : Replaceable d mem x value
    value-replaceable =
        record {
          undamaged = a.undamaged;
          live =
              entry-live D a.undamaged.rules attributes el x (element-there D el (element-set there.checked)).0
              (find-some (has_name D n) (list_at D attributes el) x q).0;
          room = room-left (replacement_fits D (replaceable_at D x) value) (guard_passed (full_unless (replacement_fits D (replaceable_at D x) value)) D changed there.accepted);
        }

    pub value-performed : (r : Document) (mem' : List ℕ) → Step d mem r mem' (with_replaced (decode d mem) x (replaceable_at (decode d mem) x) value)
        → Performed (set-attribute el ns local value) d mem done r mem'
    value-performed r mem' s =
        performed (set-attribute el ns local value) d mem changed
        (there.same ∙ guard-open (full_unless (replacement_fits D (replaceable_at D x) value)) D changed there.accepted) done refl r mem' s

-- ---- declare_namespace

module _ (d : Document) (mem : List ℕ) (el : ℕ) (prefix uri : List ℕ) (a : Admitted (declare-namespace el prefix uri) d mem) where
  abbrev D₁ : Doc
  D₁ = decode d mem

  abbrev check₁ : ℕ
  check₁ = check_declare_namespace prefix uri (view_at D₁ el)

  abbrev declaring : Option ℕ → Out
  declaring o = declare_namespace_found o D₁ el prefix uri

  element-declared : check_declare_namespace prefix uri (view_at (decode d mem) el) ≡ 0 → an_element (view_at (decode d mem) el) ≡ 0
  element-declared z = then-element D₁ el (not_utf8 (prefix ∷ uri ∷ [])) (declaration_check prefix uri) z

  -- a new one
  module _ (q : find_namespace (decode d mem) el prefix ≡ None) where
    abbrev added₁ : Out
    added₁ = answers (appended D₁ namespaces el (with_two D₁ namespace prefix uri) (stored_two D₁ prefix uri) D₁.names) (made (next_handle D₁))

    absent₁ : Found (decode d mem) check₁ (step (declare-namespace el prefix uri) (decode d mem)) (declare_namespace_found None (decode d mem) el prefix uri)
    absent₁ = found D₁ check₁ declaring (find_namespace D₁ el prefix) None q a.accepted

    room₁ : (two_fit (decode d mem) prefix uri && node_fits (decode d mem) namespaces el) ≡ true
    room₁ =
        room-left (two_fit D₁ prefix uri && node_fits D₁ namespaces el)
        (guard_passed (full_unless (two_fit D₁ prefix uri && node_fits D₁ namespaces el)) D₁ added₁ absent₁.accepted)

    pub namespace-stores : TwoStorable d mem prefix uri
    namespace-stores =
        record {
          memory = a.undamaged.memory;
          ready = rules-texts D₁ a.undamaged.rules;
          room = and_left (two_fit D₁ prefix uri) (node_fits D₁ namespaces el) room₁;
        }

    module _ (e : Document) (mem₁ : List ℕ) (s : Step d mem e mem₁ (set_pool (decode d mem) (stored (stored (decode d mem).pool prefix) uri))) (m : Node) (f g : Option TextSlot)
        (em : m ≡ new_node (given.Namespace f g)) (qf : (slot_of f ≡ stored_slot (decode d mem).pool prefix) × CharsFit f)
        (qg : (slot_of g ≡ stored_slot (stored (decode d mem).pool prefix) uri) × CharsFit g) where
      alike : Step d mem e mem₁ (set_pool (set_names (decode d mem) (decode d mem).names) (stored (stored (decode d mem).pool prefix) uri))
      alike = step-as d mem e mem₁ _ _ s (pool-alone D₁ (stored_two D₁ prefix uri))

      pub namespace-ready : Appendable e mem₁ namespaces el × Newborn m
      namespace-ready = (
        stored-appendable d mem namespaces el (stored_two D₁ prefix uri) D₁.names e mem₁ alike
            (element-appendable d mem a.undamaged el namespaces refl (element-declared absent₁.checked)
            (and_right (two_fit D₁ prefix uri) (node_fits D₁ namespaces el) room₁)),
        subst Newborn (sym em) (newborn-namespace f g qf.1 qg.1),
      )

      pub namespace-performed : (r : Document) (mem₂ : List ℕ) (h : ℕ)
          → Step e mem₁ r mem₂ (appended (decode e mem₁) namespaces el (kind_of m.«data») (decode e mem₁).pool (decode e mem₁).names) × (h ≡ next_handle (decode e mem₁))
          → Performed (declare-namespace el prefix uri) d mem (made h) r mem₂
      namespace-performed r mem₂ h z =
          made-performed d mem namespaces el (stored_two D₁ prefix uri) D₁.names e mem₁ alike (with_two D₁ namespace prefix uri) m
          (ap (λ (x : Node). kind_of x.«data») em ∙ ap₂ namespace qf.0 qg.0) r mem₂ z.0 (declare-namespace el prefix uri)
          (absent₁.same ∙ guard-open (full_unless (two_fit D₁ prefix uri && node_fits D₁ namespaces el)) D₁ added₁ absent₁.accepted) h z.1

  -- another URI
  module _ (x : ℕ) (q : find_namespace (decode d mem) el prefix ≡ Some x) where
    abbrev changed₁ : Out
    changed₁ = answers (with_replaced D₁ x (replaceable_at D₁ x) uri) (made x)

    there₁ : Found (decode d mem) check₁ (step (declare-namespace el prefix uri) (decode d mem)) (declare_namespace_found (Some x) (decode d mem) el prefix uri)
    there₁ = found D₁ check₁ declaring (find_namespace D₁ el prefix) (Some x) q a.accepted

    pub uri-replaceable : Replaceable d mem x uri
    uri-replaceable =
        record {
          undamaged = a.undamaged;
          live =
              entry-live D₁ a.undamaged.rules namespaces el x (element-there D₁ el (element-declared there₁.checked)).0
              (find-some (has_prefix D₁ prefix) (list_at D₁ namespaces el) x q).0;
          room = room-left (replacement_fits D₁ (replaceable_at D₁ x) uri) (guard_passed (full_unless (replacement_fits D₁ (replaceable_at D₁ x) uri)) D₁ changed₁ there₁.accepted);
        }

    pub uri-performed : (r : Document) (mem' : List ℕ) → Step d mem r mem' (with_replaced (decode d mem) x (replaceable_at (decode d mem) x) uri)
        → Performed (declare-namespace el prefix uri) d mem (made x) r mem'
    uri-performed r mem' s =
        performed (declare-namespace el prefix uri) d mem changed₁
        (there₁.same ∙ guard-open (full_unless (replacement_fits D₁ (replaceable_at D₁ x) uri)) D₁ changed₁ there₁.accepted) (made x) refl r mem' s
