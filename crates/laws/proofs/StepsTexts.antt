-- `set_text`, `set_attribute` and `declare_namespace` are the plain tree's.
-- Assumes nothing.
use Rattle.std.specs.Prelude.{Option, None, Some}
use mathlib.Core.Path.{◌≡◌, refl, sym, ap, ◌∙◌, subst}
use mathlib.Core.Logic.{◌≢◌, inr}
use mathlib.Core.Bool.{Bool, true, false, not, cond, ◌&&◌, false≢true, true≢false}
use mathlib.Core.List.{List, [], ◌∷◌, ◌++◌, map}
use Prim.Native.Nat.{ℕ, zero, suc, ◌<◌}
use native.Mathlib.Omega.{arith}
use lib.ListN.{length}
use Rattle.words.specs.Lists.{find}
use Rattle.words.proofs.Lists.{insert_at-end, map-append}
use Rattle.words.proofs.Tests.{and_left, and_right}
use Rattle.texts.specs.Pool.{Pool, stored_slot, stored, slots_for}
use Rattle.words.specs.Pieces.{same_bytes}
use Rattle.names.specs.Table.{Name, name, same_name, number_of, interned}
use Rattle.model.specs.Kinds.{Kind, root, element, attribute, text, comment, namespace, instruction, Which, attributes, namespaces, is_element, is_root, owns, which_of, text_of, attribute_name, prefix_of, replaceable}
use Rattle.model.specs.Doc.{Doc, any_option, map_option, is_some, is_none, shown_list}
use Rattle.model.specs.Edits.{next_handle}
use Rattle.model.specs.Arguments.{first, not_utf8}
use Rattle.model.specs.Checks.{check_set_text, check_set_attribute, declaration_check, check_declare_namespace, a_text, an_element, text_under}
use Rattle.model.specs.Calls.{Answered, made, done, step, answers, guarded, full_unless, node_fits, text_fits, two_fit, name_fits_in, replacement_fits, replaceable_at, with_replaced, appended, with_two, stored_two, find_attribute, find_namespace, set_attribute_found, declare_namespace_found, set-text, set-attribute, declare-namespace}
use Rattle.model.specs.Calls as calls
use Rattle.model.specs.Tree.{Tree, update}
use Rattle.model.specs.Tree as tree
use Rattle.laws.specs.Claim.{no_step, handle_told_from, last_of, shown, through_handles}
use Rattle.laws.proofs.Wf.{WF}
use Rattle.laws.proofs.Sim.{Sim}
use Rattle.laws.proofs.Membership.{find-some}
use Rattle.laws.proofs.Basics.{by-handle, means-live, update_same, update_other, same_which-refl}
use Rattle.laws.proofs.Stores.{Stores, stores-attribute, stores-namespace}
use Rattle.laws.proofs.SimTexts.{sim-replaced}
use Rattle.laws.proofs.Explained.{shown-list}
use Rattle.laws.proofs.Retold.{sim-retold}
use Rattle.laws.proofs.WfEdits.{wf-replaced}
use Rattle.laws.proofs.Views.{view-live, under-root-agrees, find-attribute-agrees, find-namespace-agrees, listed-live}
use Rattle.laws.proofs.Guards.{stale-refused, Plain, guarded-same, full-or, guarded-full, first-zero, refuse-zero, not-false-true}
use Rattle.laws.proofs.StepsAppending.{appended-same, appended-births}
use Rattle.laws.proofs.Runs.{Told}

-- which kinds have a text that can be replaced
module _ {N T : Type 0} where
  text-replaceable : (k : Kind N T) → is_none (text_of k) ≡ false → is_some (replaceable k) ≡ true
  text-replaceable root e = absurd (true≢false e)
  text-replaceable (element n) e = absurd (true≢false e)
  text-replaceable (attribute n v) e = refl
  text-replaceable (text s) e = refl
  text-replaceable (comment s) e = absurd (true≢false e)
  text-replaceable (namespace p u) e = refl
  text-replaceable (instruction s c) e = absurd (true≢false e)

  named-replaceable : (q : N → Bool) (k : Kind N T) → any_option q (attribute_name k) ≡ true → is_some (replaceable k) ≡ true
  named-replaceable q root e = absurd (false≢true e)
  named-replaceable q (element n) e = absurd (false≢true e)
  named-replaceable q (attribute n v) e = refl
  named-replaceable q (text s) e = refl
  named-replaceable q (comment s) e = absurd (false≢true e)
  named-replaceable q (namespace p u) e = refl
  named-replaceable q (instruction s c) e = absurd (false≢true e)

  prefixed-replaceable : (q : T → Bool) (k : Kind N T) → any_option q (prefix_of k) ≡ true → is_some (replaceable k) ≡ true
  prefixed-replaceable q root e = absurd (false≢true e)
  prefixed-replaceable q (element n) e = absurd (false≢true e)
  prefixed-replaceable q (attribute n v) e = refl
  prefixed-replaceable q (text s) e = refl
  prefixed-replaceable q (comment s) e = absurd (false≢true e)
  prefixed-replaceable q (namespace p u) e = refl
  prefixed-replaceable q (instruction s c) e = absurd (false≢true e)

last_of-snoc : (l : List ℕ) (x : ℕ) → last_of (l ++ (x ∷ [])) ≡ x
last_of-snoc [] x = refl
last_of-snoc (y ∷ []) x = refl
last_of-snoc (y ∷ z ∷ l) x = last_of-snoc (z ∷ l) x

element-passed : (k : Kind Name (List ℕ)) → an_element (Some k) ≡ 0 → is_element k ≡ true
element-passed k e = not-false-true (is_element k) (refuse-zero (not (is_element k)) 6 e)

-- the last in the list that the new birth joined
joined-last : (t : Tree) (w : Which) (p : ℕ) (kind : Kind Name (List ℕ)) → p ≢ t.births → (tree.appended t w p kind).lists w p ≡ t.lists w p ++ (t.births ∷ [])
unfolding tree.born tree.set_parent tree.set_list
joined-last t w p kind n =
    rw (same_which-refl w)
    (update_same (update (t.lists w) t.births []) p _
    ∙ insert_at-end t.births (update (t.lists w) t.births [] p)
    ∙ ap (λ (l : List ℕ). l ++ (t.births ∷ [])) (update_other (t.lists w) t.births [] p n))

module _ (d : Doc) (t : Tree) (hs : ℕ → ℕ) (S : Sim d t hs) (W : WF t) where
  replaced-same : (b : ℕ) (s : List ℕ) (a : Answered) (u : tree.TreeAnswer) → t.live b ≡ true → is_some (replaceable (t.kind b)) ≡ true
      → shown (with_replaced d (hs b) (replaceable_at d (hs b)) s) a ≡ through_handles hs u
      → replacement_fits d (replaceable_at d (hs b)) s ≡ true → Plain hs d (answers (with_replaced d (hs b) (replaceable_at d (hs b)) s) a) (tree.answers (tree.replaced t b s) u)
  replaced-same b s a u lb may same fits = inr (sim-replaced d t hs S b s lb may fits, wf-replaced W b s, same)

  pub step-set-text : (s : List ℕ) (h : ℕ) → Plain hs d (step (set-text h s) d) (tree.step (set-text h s) hs t)
  step-set-text s =
      by-handle d t hs S (λ h. Plain hs d (step (set-text h s) d) (tree.step (set-text h s) hs t))
      (λ b lb. rw (view-live d t hs S W b lb, means-live d t hs S b lb, under-root-agrees d t hs S W b lb)
      (guarded-full d t hs S W (check_set_text s (Some (t.kind b)) (tree.under_root t (Some b))) (replacement_fits d (replaceable_at d (hs b)) s)
      (answers (with_replaced d (hs b) (replaceable_at d (hs b)) s) done) (tree.answers (tree.replaced t b s) done)
      (λ z fits. replaced-same b s done done lb (text-replaceable (t.kind b) (refuse-zero (is_none (text_of (t.kind b))) 9 (first-zero (a_text (Some (t.kind b))) (text_under (tree.under_root t (Some b)) s) (first-zero (not_utf8 (s ∷ [])) _ z).1).0)) refl fits)))
      (λ h m r. rw (m, r)
      (guarded-full d t hs S W (first (not_utf8 (s ∷ [])) 6) (replacement_fits d (replaceable_at d h) s) (answers (with_replaced d h (replaceable_at d h) s) done) (tree.answers (tree.replaced t 0 s) done)
      (λ z f. absurd (stale-refused (not_utf8 (s ∷ [])) z))))

  -- ---- a node that an element owns

  -- what is told where the guards are nested
  told-nested : (n : ℕ) (fits : Bool) (from : Option ℕ) (o : calls.Out) (u : tree.Out) → no_step o.answer ≡ false → t.births < u.tree.births
      → (t.births < (cond (no_step (guarded n d (guarded (full_unless fits) d o)).answer) t (tree.guarded n t u).tree).births
      → hs t.births ≡ handle_told_from from (guarded n d (guarded (full_unless fits) d o)))
      → n ≡ 0 → fits ≡ true → hs t.births ≡ handle_told_from from o
  unfolding guarded
  told-nested zero true from o u full more h z f = h (rw full more)
  told-nested zero false from o u full more h z f = absurd (false≢true f)
  told-nested (suc n) fits from o u full more h z f = absurd (omega arith)

  -- the last handle in the element's list after the call is the next one, whatever is told
  last-is-next : (w : Which) (e : ℕ) (k : Kind ℕ (Option ℕ)) (pool : Pool) (names : List (Option Name)) (kind : Kind Name (List ℕ))
      → t.live e ≡ true → which_of kind ≡ w → owns w (t.kind e) ≡ true → is_root kind ≡ false → is_element kind ≡ false
      → Stores d k pool names kind → node_fits d w (hs e) ≡ true → last_of (shown_list (appended d w (hs e) k pool names) w (hs e)) ≡ next_handle d
  unfolding tree.born tree.set_parent tree.set_list
  last-is-next w e k pool names kind le which own nr ne K fits =
      let n : ℕ = t.births in
      let lt = S.counted e le in
      let gs : ℕ → ℕ = update hs n (next_handle d) in
      let same : (b : ℕ) → b < n → gs b ≡ hs b = λ b l. update_other hs n (next_handle d) b (λ q. omega arith) in
      let at : gs e ≡ hs e = same e lt in
      let S₁ = sim-retold hs gs same S W in
      let r = appended-same d t gs S₁ W w e k pool names kind le which own nr (λ p el. absurd (true≢false (sym el ∙ ne))) K (rw at fits) (update_same hs n (next_handle d)) in
      let live₁ : (tree.appended t w e kind).live e ≡ true = update_other t.live n true e (λ q. omega arith) ∙ le in
      subst (λ (h : ℕ). last_of (shown_list (appended d w h k pool names) w h) ≡ next_handle d) at
      (ap last_of (shown-list (appended d w (gs e) k pool names) (tree.appended t w e kind) gs r.0 w e live₁ ∙ ap (map gs) (joined-last t w e kind (λ q. omega arith)) ∙ map-append gs (t.lists w e) (n ∷ []))
      ∙ last_of-snoc (map gs (t.lists w e)) (gs n)
      ∙ update_same hs n (next_handle d))

  -- ---- attributes

  found-attribute : (n : Name) (value : List ℕ) (e a : ℕ) → t.live e ≡ true → find (tree.has_name t n) (t.lists attributes e) ≡ Some a
      → Plain hs d (set_attribute_found (Some (hs a)) d (hs e) n value) (tree.set_attribute_found (Some a) t e n value)
  found-attribute n value e a le f =
      let m = find-some (tree.has_name t n) (t.lists attributes e) a f in
      full-or d t hs S W (replacement_fits d (replaceable_at d (hs a)) value) (answers (with_replaced d (hs a) (replaceable_at d (hs a)) value) done) (tree.answers (tree.replaced t a value) done)
      (λ fits. replaced-same a value done done (listed-live d t hs S W attributes e a le m.0) (named-replaceable (same_name n) (t.kind a) m.1) refl fits)

  new-attribute : (n : Name) (value : List ℕ) (e : ℕ) → t.live e ≡ true → is_element (t.kind e) ≡ true
      → (name_fits_in d n && (text_fits d (slots_for value) 0 (length value) && node_fits d attributes (hs e)) ≡ true
      → hs t.births ≡ handle_told_from (Some (hs e)) (answers (appended d attributes (hs e) (attribute (number_of d.names n) (stored_slot d.pool value)) (stored d.pool value) (interned d.names n)) done))
      → Plain hs d (set_attribute_found None d (hs e) n value) (tree.set_attribute_found None t e n value)
  new-attribute n value e le el told =
      full-or d t hs S W (name_fits_in d n && (text_fits d (slots_for value) 0 (length value) && node_fits d attributes (hs e)))
      (answers (appended d attributes (hs e) (attribute (number_of d.names n) (stored_slot d.pool value)) (stored d.pool value) (interned d.names n)) done)
      (tree.answers (tree.appended t attributes e (attribute n value)) done)
      (λ fits.
      let rest = and_right (name_fits_in d n) (text_fits d (slots_for value) 0 (length value) && node_fits d attributes (hs e)) fits in
      let room = and_right (text_fits d (slots_for value) 0 (length value)) (node_fits d attributes (hs e)) rest in
      let K = stores-attribute d t hs S n value (and_left (name_fits_in d n) (text_fits d (slots_for value) 0 (length value) && node_fits d attributes (hs e)) fits) (and_left (text_fits d (slots_for value) 0 (length value)) (node_fits d attributes (hs e)) rest) in
      let q = told fits ∙ last-is-next attributes e (attribute (number_of d.names n) (stored_slot d.pool value)) (stored d.pool value) (interned d.names n) (attribute n value) le refl el refl refl K room in
      let r = appended-same d t hs S W attributes e (attribute (number_of d.names n) (stored_slot d.pool value)) (stored d.pool value) (interned d.names n) (attribute n value) le refl el refl (λ p f. absurd (false≢true f)) K room q in
      inr (r.0, r.1, refl))

  set-attribute-live : (ns local value : List ℕ) (e : ℕ) → t.live e ≡ true → (o : Option ℕ) → find (tree.has_name t (name ns local)) (t.lists attributes e) ≡ o
      → (t.births < (cond (no_step (guarded (check_set_attribute ns local value (Some (t.kind e)) (is_some (map_option hs o))) d (set_attribute_found (map_option hs o) d (hs e) (name ns local) value)).answer) t
      (tree.guarded (check_set_attribute ns local value (Some (t.kind e)) (is_some o)) t (tree.set_attribute_found o t e (name ns local) value)).tree).births
      → hs t.births ≡ handle_told_from (Some (hs e)) (guarded (check_set_attribute ns local value (Some (t.kind e)) (is_some (map_option hs o))) d (set_attribute_found (map_option hs o) d (hs e) (name ns local) value)))
      → Plain hs d (guarded (check_set_attribute ns local value (Some (t.kind e)) (is_some (map_option hs o))) d (set_attribute_found (map_option hs o) d (hs e) (name ns local) value))
      (tree.guarded (check_set_attribute ns local value (Some (t.kind e)) (is_some o)) t (tree.set_attribute_found o t e (name ns local) value))
  set-attribute-live ns local value e le (Some a) f told =
      guarded-same d t hs S W (check_set_attribute ns local value (Some (t.kind e)) true) (set_attribute_found (Some (hs a)) d (hs e) (name ns local) value) (tree.set_attribute_found (Some a) t e (name ns local) value)
      (λ z. found-attribute (name ns local) value e a le f)
  set-attribute-live ns local value e le None f told =
      let n : Name = name ns local in
      let fits : Bool = name_fits_in d n && (text_fits d (slots_for value) 0 (length value) && node_fits d attributes (hs e)) in
      let o : calls.Out = answers (appended d attributes (hs e) (attribute (number_of d.names n) (stored_slot d.pool value)) (stored d.pool value) (interned d.names n)) done in
      let u : tree.Out = tree.answers (tree.appended t attributes e (attribute n value)) done in
      let check : ℕ = check_set_attribute ns local value (Some (t.kind e)) false in
      guarded-same d t hs S W check (set_attribute_found None d (hs e) n value) u
      (λ z. new-attribute n value e le (element-passed (t.kind e) (first-zero (an_element (Some (t.kind e))) _ (first-zero (not_utf8 (ns ∷ local ∷ value ∷ [])) _ z).1).0)
      (λ fit. told-nested check fits (Some (hs e)) o u refl (appended-births d t hs S W attributes e (attribute n value)) told z fit))

  pub step-set-attribute : (ns local value : List ℕ) (h : ℕ) → Told hs (set-attribute h ns local value) d t
      → Plain hs d (step (set-attribute h ns local value) d) (tree.step (set-attribute h ns local value) hs t)
  step-set-attribute ns local value =
      by-handle d t hs S (λ h. Told hs (set-attribute h ns local value) d t → Plain hs d (step (set-attribute h ns local value) d) (tree.step (set-attribute h ns local value) hs t))
      (λ e le. rw (view-live d t hs S W e le, means-live d t hs S e le, find-attribute-agrees d t hs S W (name ns local) e le)
      (set-attribute-live ns local value e le (find (tree.has_name t (name ns local)) (t.lists attributes e)) refl))
      (λ h m r told. rw (m, r)
      (guarded-same d t hs S W (first (not_utf8 (ns ∷ local ∷ value ∷ [])) 6) (set_attribute_found (find_attribute d h (name ns local)) d h (name ns local) value)
      (tree.set_attribute_found (find (tree.has_name t (name ns local)) (t.lists attributes 0)) t 0 (name ns local) value)
      (λ z. absurd (stale-refused (not_utf8 (ns ∷ local ∷ value ∷ [])) z))))

  -- ---- namespaces

  found-namespace : (prefix uri : List ℕ) (e a : ℕ) → t.live e ≡ true → find (tree.has_prefix t prefix) (t.lists namespaces e) ≡ Some a
      → Plain hs d (declare_namespace_found (Some (hs a)) d (hs e) prefix uri) (tree.declare_namespace_found (Some a) t e prefix uri)
  found-namespace prefix uri e a le f =
      let m = find-some (tree.has_prefix t prefix) (t.lists namespaces e) a f in
      full-or d t hs S W (replacement_fits d (replaceable_at d (hs a)) uri) (answers (with_replaced d (hs a) (replaceable_at d (hs a)) uri) (made (hs a))) (tree.answers (tree.replaced t a uri) (made a))
      (λ fits. replaced-same a uri (made (hs a)) (made a) (listed-live d t hs S W namespaces e a le m.0) (prefixed-replaceable (same_bytes prefix) (t.kind a) m.1) refl fits)

  new-namespace : (prefix uri : List ℕ) (e : ℕ) → t.live e ≡ true → is_element (t.kind e) ≡ true
      → ((two_fit d prefix uri && node_fits d namespaces (hs e)) ≡ true → hs t.births ≡ next_handle d)
      → Plain hs d (declare_namespace_found None d (hs e) prefix uri) (tree.declare_namespace_found None t e prefix uri)
  new-namespace prefix uri e le el told =
      full-or d t hs S W (two_fit d prefix uri && node_fits d namespaces (hs e))
      (answers (appended d namespaces (hs e) (with_two d namespace prefix uri) (stored_two d prefix uri) d.names) (made (next_handle d)))
      (tree.answers (tree.appended t namespaces e (namespace prefix uri)) (made t.births))
      (λ fits.
      let q = told fits in
      let r = appended-same d t hs S W namespaces e (with_two d namespace prefix uri) (stored_two d prefix uri) d.names (namespace prefix uri) le refl el refl (λ p f. absurd (false≢true f))
      (stores-namespace d t hs S prefix uri (and_left (two_fit d prefix uri) (node_fits d namespaces (hs e)) fits)) (and_right (two_fit d prefix uri) (node_fits d namespaces (hs e)) fits) q in
      inr (r.0, r.1, ap {B = calls.Answer ℕ Name (Unit {0})} made (sym q)))

  declare-live : (prefix uri : List ℕ) (e : ℕ) → t.live e ≡ true → (o : Option ℕ) → find (tree.has_prefix t prefix) (t.lists namespaces e) ≡ o
      → (t.births < (cond (no_step (guarded (check_declare_namespace prefix uri (Some (t.kind e))) d (declare_namespace_found (map_option hs o) d (hs e) prefix uri)).answer) t
      (tree.guarded (check_declare_namespace prefix uri (Some (t.kind e))) t (tree.declare_namespace_found o t e prefix uri)).tree).births
      → hs t.births ≡ handle_told_from None (guarded (check_declare_namespace prefix uri (Some (t.kind e))) d (declare_namespace_found (map_option hs o) d (hs e) prefix uri)))
      → Plain hs d (guarded (check_declare_namespace prefix uri (Some (t.kind e))) d (declare_namespace_found (map_option hs o) d (hs e) prefix uri))
      (tree.guarded (check_declare_namespace prefix uri (Some (t.kind e))) t (tree.declare_namespace_found o t e prefix uri))
  declare-live prefix uri e le (Some a) f told =
      guarded-same d t hs S W (check_declare_namespace prefix uri (Some (t.kind e))) (declare_namespace_found (Some (hs a)) d (hs e) prefix uri) (tree.declare_namespace_found (Some a) t e prefix uri)
      (λ z. found-namespace prefix uri e a le f)
  declare-live prefix uri e le None f told =
      let o : calls.Out = answers (appended d namespaces (hs e) (with_two d namespace prefix uri) (stored_two d prefix uri) d.names) (made (next_handle d)) in
      let u : tree.Out = tree.answers (tree.appended t namespaces e (namespace prefix uri)) (made t.births) in
      let check : ℕ = check_declare_namespace prefix uri (Some (t.kind e)) in
      guarded-same d t hs S W check (declare_namespace_found None d (hs e) prefix uri) u
      (λ z. new-namespace prefix uri e le (element-passed (t.kind e) (first-zero (an_element (Some (t.kind e))) (declaration_check prefix uri) (first-zero (not_utf8 (prefix ∷ uri ∷ [])) _ z).1).0)
      (λ fit. told-nested check (two_fit d prefix uri && node_fits d namespaces (hs e)) None o u refl (appended-births d t hs S W namespaces e (namespace prefix uri)) told z fit))

  pub step-declare-namespace : (prefix uri : List ℕ) (h : ℕ) → Told hs (declare-namespace h prefix uri) d t
      → Plain hs d (step (declare-namespace h prefix uri) d) (tree.step (declare-namespace h prefix uri) hs t)
  step-declare-namespace prefix uri =
      by-handle d t hs S (λ h. Told hs (declare-namespace h prefix uri) d t → Plain hs d (step (declare-namespace h prefix uri) d) (tree.step (declare-namespace h prefix uri) hs t))
      (λ e le. rw (view-live d t hs S W e le, means-live d t hs S e le, find-namespace-agrees d t hs S W prefix e le)
      (declare-live prefix uri e le (find (tree.has_prefix t prefix) (t.lists namespaces e)) refl))
      (λ h m r told. rw (m, r)
      (guarded-same d t hs S W (first (not_utf8 (prefix ∷ uri ∷ [])) 6) (declare_namespace_found (find_namespace d h prefix) d h prefix uri)
      (tree.declare_namespace_found (find (tree.has_prefix t prefix) (t.lists namespaces 0)) t 0 prefix uri)
      (λ z. absurd (stale-refused (not_utf8 (prefix ∷ uri ∷ [])) z))))
