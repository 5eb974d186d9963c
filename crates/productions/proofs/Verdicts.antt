-- From what a rule finds in a text to what the checks answer.
-- Assumes nothing.
use mathlib.Core.Path.{◌≡◌, refl, sym, ap, ◌∙◌}
use mathlib.Core.Bool.{Bool, true, false, not, ◌&&◌, ◌||◌, cond}
use mathlib.Core.List.{List, [], ◌∷◌}
use Prim.Native.Nat.{ℕ}
use native.Mathlib.Omega.{arith}
use lib.Dec.{ltb}
use lib.ListN.{length}
use Rattle.std.specs.Prelude.{Ok, Err, is_ok, Option, None, Some}
use Rattle.std.specs.Result.{result_unwrap_or, IsErrAnd}
use Rattle.std.proofs.lemmas.Result.{err_from_is_err_and}
use Rattle.words.specs.Lists.{all}
use Rattle.chars.specs.declared.Fault.{Fault}
use Rattle.chars.specs.declared.Fault.TheVariants.{NotUtf8, InvalidName, InvalidText}
use Rattle.chars.specs.declared.NotUtf8 as declared
use Rattle.chars.specs.declared.Rule.{Rule}
use Rattle.chars.specs.declared.Rule.TheVariants.{Utf8, Text, Literal, Comment, PiData, Name, WhiteSpace}
use Rattle.chars.specs.declared.State.TheVariants.{Start}
use Rattle.chars.specs.Classes.{class_of, is_nc_name}
use Rattle.chars.specs.Utf8.{decode}
use Rattle.chars.specs.Checks.{Check, passed, refused, quoted, spells, contains, ends_with, ◌then◌, is_empty, is_xmlns, check_prefix, check_text, is_literal, check_literal, check_comment, is_xml, check_pi, xmlns_uri, xml_uri, check_namespace, check_namespace_binding, is_white_space, checked, on_text, on_texts, tested, of_text, is_utf8}
use Rattle.chars.specs.Scan.{Verdict, verdict_after}
use Rattle.productions.proofs.Rules.{accepts, text-accepted, literal-accepted, space-accepted, name-accepted, comment-accepted, pi-accepted}
use Rattle.chars.proofs.Ascii.{spells-bytes, xmlns-bytes, xml-bytes, empty-bytes}

-- ---- what a rule found

-- the text that was read, and what the rule says of it
pub record Read (rule : Rule) (b : List ℕ) (t : Bool) : Type 0 where
  pub text : List ℕ
  pub decoded : decode b ≡ Some text
  pub accepted : t ≡ accepts rule Start text

module _ (rule : Rule) (b : List ℕ) (v : Verdict) (found : v ≡ verdict_after rule Start (decode b)) where
  pub unread : (e : declared.NotUtf8) → v ≡ Err e → decode b ≡ None
  unfolding verdict_after
  unread e h = go (decode b) (sym h ∙ found)
    where
      go : (o : Option (List ℕ)) → Err e ≡ verdict_after rule Start o → o ≡ None
      go None q = refl
      go (Some l) q = cc

  pub read : (t : Bool) → v ≡ Ok t → Read rule b t
  unfolding verdict_after
  read t h = go (decode b) refl (sym h ∙ found)
    where
      go : (o : Option (List ℕ)) → decode b ≡ o → Ok t ≡ verdict_after rule Start o → Read rule b t
      go None d q = cc
      go (Some l) d q = record { text = l; decoded = d; accepted = cc }

-- the exit of a `?`
pub left : (r : Check) (why : Fault) → IsErrAnd r (λ (y : Fault). y ≡ why) → r ≡ refused why
left r why h = let p = err_from_is_err_and r h in p.1 ∙ ap Err p.2

-- what the answer tells of the test
pub test-passed : (t : Bool) (why : Fault) (r : Check) → r ≡ cond t passed (refused why) → r ≡ passed → t ≡ true
test-passed true why r e f = refl
test-passed false why r e f = cc

pub test-refused : (t : Bool) (why w : Fault) (r : Check) → r ≡ cond t passed (refused why) → r ≡ Err w → (t ≡ false) × (w ≡ why)
test-refused true why w r e f = cc
test-refused false why w r e f = (refl, cc)

-- ---- tests

module _ (rule : Rule) (test : List ℕ → Bool) (means : (l : List ℕ) → accepts rule Start l ≡ test l) where
  held : (o : Option (List ℕ)) → result_unwrap_or (verdict_after rule Start o) false ≡ tested test o
  unfolding verdict_after
  held None = refl
  held (Some l) = means l

  pub holds_test : (b : List ℕ) (v : Verdict) (r : Bool) → v ≡ verdict_after rule Start (decode b) → r ≡ result_unwrap_or v false → r ≡ of_text test b
  unfolding of_text
  holds_test b v r e f = f ∙ ap (λ (u : Verdict). result_unwrap_or u false) e ∙ held (decode b)

pub utf8-checked : (b : List ℕ) (v : Verdict) (r : Bool) → v ≡ verdict_after Utf8 Start (decode b) → r ≡ is_ok v → r ≡ is_utf8 b
unfolding is_utf8 of_text verdict_after
utf8-checked b v r e f = f ∙ ap is_ok e ∙ go (decode b)
  where
    go : (o : Option (List ℕ)) → is_ok (verdict_after Utf8 Start o) ≡ tested (λ (l : List ℕ). true) o
    go None = refl
    go (Some l) = refl

pub name-tested : (b : List ℕ) (v : Verdict) (r : Bool) → v ≡ verdict_after Name Start (decode b) → r ≡ result_unwrap_or v false → r ≡ of_text (is_nc_name class_of) b
name-tested = holds_test Name (is_nc_name class_of) name-accepted

pub space-tested : (b : List ℕ) (v : Verdict) (r : Bool) → v ≡ verdict_after WhiteSpace Start (decode b) → r ≡ result_unwrap_or v false → r ≡ of_text is_white_space b
unfolding is_white_space
space-tested = holds_test WhiteSpace is_white_space space-accepted

-- ---- checks

pub no_text : (check : List ℕ → Check) (b : List ℕ) → decode b ≡ None → refused NotUtf8 ≡ on_text check b
unfolding on_text
no_text check b h = rw h

some_text : (check : List ℕ → Check) (b l : List ℕ) → decode b ≡ Some l → on_text check b ≡ check l
unfolding on_text
some_text check b l h = rw h

module _ (rule : Rule) (check : List ℕ → Check) (means : (l : List ℕ) → check l ≡ cond (accepts rule Start l) passed (refused InvalidText)) where
  text-checked : (b : List ℕ) (t : Bool) → Read rule b t → cond t passed (refused InvalidText) ≡ on_text check b
  text-checked b t k =
      ap (λ (s : Bool). cond s passed (refused InvalidText)) k.accepted ∙ sym (means k.text) ∙ sym (some_text check b k.text k.decoded)

pub check-text : (b : List ℕ) (t : Bool) → Read Text b t → cond t passed (refused InvalidText) ≡ on_text check_text b
unfolding check_text
check-text = text-checked Text check_text (λ l. rw (text-accepted l))

pub check-literal : (b : List ℕ) (t : Bool) → Read Literal b t → cond t passed (refused InvalidText) ≡ on_text check_literal b
unfolding check_literal
check-literal = text-checked Literal check_literal (λ l. rw (literal-accepted l))

-- the literal test before the other
both-pass : (s t : Bool) → (cond s passed (refused InvalidText) then cond t (refused InvalidText) passed) ≡ cond (s && not t) passed (refused InvalidText)
both-pass true true = refl
both-pass true false = refl
both-pass false t = refl

pub check-comment : (b : List ℕ) (t : Bool) → Read Comment b t → cond t passed (refused InvalidText) ≡ on_text check_comment b
unfolding check_comment check_literal
check-comment =
    text-checked Comment check_comment
    (λ l. both-pass (all is_literal l) (contains 0x2D 0x2D l || ends_with 0x2D l) ∙ ap (λ (t : Bool). cond t passed (refused InvalidText)) (sym (comment-accepted l)))

-- ---- prefixes

no-prefix : (b : List ℕ) → length b ≡ 0 → b ≡ []
no-prefix [] h = refl
no-prefix (a ∷ b) h = absurd (omega arith)

pub check-no-prefix : (b : List ℕ) → length b ≡ 0 → passed ≡ on_text (check_prefix class_of) b
unfolding on_text decode check_prefix
check-no-prefix b h = rw (no-prefix b h)

not-empty : (b : List ℕ) → (length b ≡ 0 → ⊥) → is_empty b ≡ false
not-empty [] h = absurd (h refl)
not-empty (a ∷ b) h = refl

prefix_cases : (n x y : Bool) → (n && not (x || y)) ≡ (false || (n && (not x && not y)))
prefix_cases true true y = refl
prefix_cases true false y = refl
prefix_cases false x y = refl

-- a test that is as well said of the bytes
of-bytes : (test : List ℕ → Bool) (b l : List ℕ) → tested test (decode b) ≡ test b → decode b ≡ Some l → test b ≡ test l
of-bytes test b l e h = sym e ∙ ap (tested test) h

pub check-prefix : (b : List ℕ) → (length b ≡ 0 → ⊥) → (t : Bool) → Read Name b t
    → cond (t && not (spells (quoted "xml") b || is_xmlns b)) passed (refused InvalidName) ≡ on_text (check_prefix class_of) b
unfolding of_text check_prefix
check-prefix b h t k =
    let l = k.text in
    let xml = of-bytes (spells (quoted "xml")) b l (spells-bytes (quoted "xml") refl b) k.decoded in
    let xmlns = of-bytes is_xmlns b l (xmlns-bytes b) k.decoded in
    let empty : is_empty l ≡ false = sym (of-bytes is_empty b l (empty-bytes b) k.decoded) ∙ not-empty b h in
    rw (some_text (check_prefix class_of) b l k.decoded, k.accepted, name-accepted l, xml, xmlns, empty)
    (ap (λ (s : Bool). cond s passed (refused InvalidName)) (prefix_cases (is_nc_name class_of l) (spells (quoted "xml") l) (is_xmlns l)))

-- ---- processing instructions

module _ (b c : List ℕ) where
  pub no-data : decode c ≡ None → refused NotUtf8 ≡ on_texts (check_pi class_of) b c
  unfolding on_texts on_text
  no-data h = rw h (go (decode b))
    where
      go : (o : Option (List ℕ)) → refused NotUtf8 ≡ checked (λ (a : List ℕ). refused NotUtf8) o
      go None = refl
      go (Some a) = refl

  pub no_target : decode b ≡ None → refused NotUtf8 ≡ on_texts (check_pi class_of) b c
  unfolding on_texts
  no_target h = no_text (λ (a : List ℕ). on_text (check_pi class_of a) c) b h

  module _ (s t : Bool) (k : Read Name b s) (m : Read PiData c t) where
    told : on_texts (check_pi class_of) b c ≡ check_pi class_of k.text m.text
    unfolding on_texts on_text
    told = rw (k.decoded, m.decoded)

    named : (s && not (is_xml b)) ≡ not (not (is_nc_name class_of k.text) || is_xml k.text)
    unfolding of_text
    named =
        rw (of-bytes is_xml b k.text (xml-bytes b) k.decoded, k.accepted, name-accepted k.text)
        (go (is_nc_name class_of k.text) (is_xml k.text))
      where
        go : (n x : Bool) → (n && not x) ≡ not (not n || x)
        go true x = refl
        go false x = refl

    pub bad-target : (s && not (is_xml b)) ≡ false → refused InvalidName ≡ on_texts (check_pi class_of) b c
    unfolding check_pi
    bad-target h = sym (told ∙ go (not (is_nc_name class_of k.text) || is_xml k.text) _ (sym named ∙ h))
      where
        go : (x : Bool) (m : Check) → not x ≡ false → cond x (refused InvalidName) m ≡ refused InvalidName
        go true m e = refl
        go false m e = cc

    pub good-target : (s && not (is_xml b)) ≡ true → cond t passed (refused InvalidText) ≡ on_texts (check_pi class_of) b c
    unfolding check_pi check_literal
    good-target h =
        rw (m.accepted, pi-accepted m.text)
        (sym (told ∙ go (not (is_nc_name class_of k.text) || is_xml k.text) _ (sym named ∙ h) ∙ both-pass (all is_literal m.text) (contains 0x3F 0x3E m.text)))
      where
        go : (x : Bool) (m : Check) → not x ≡ true → cond x (refused InvalidName) m ≡ m
        go true m e = cc
        go false m e = refl

-- ---- namespaces

-- a URI that passes the first check, and is no reserved one
module _ (first : List ℕ → Check) (uri b : List ℕ) where
  pub first-refuses : (why : Fault) → refused why ≡ on_text first b → refused why ≡ on_text (λ (l : List ℕ). first l then cond (spells uri l) (refused InvalidName) passed) b
  unfolding on_text
  first-refuses why e = go (decode b) e
    where
      go : (o : Option (List ℕ)) → refused why ≡ checked first o → refused why ≡ checked (λ (l : List ℕ). first l then cond (spells uri l) (refused InvalidName) passed) o
      go None f = f
      go (Some l) f = ap (λ (k : Check). k then cond (spells uri l) (refused InvalidName) passed) f

  pub first-passes : all (λ (x : ℕ). ltb x 0x80) uri ≡ true → passed ≡ on_text first b
      → cond (not (spells uri b)) passed (refused InvalidName) ≡ on_text (λ (l : List ℕ). first l then cond (spells uri l) (refused InvalidName) passed) b
  unfolding on_text
  first-passes low e = ap (λ (t : Bool). cond (not t) passed (refused InvalidName)) (sym (spells-bytes uri low b)) ∙ go (decode b) e
    where
      swapped : (t : Bool) → cond (not t) passed (refused InvalidName) ≡ cond t (refused InvalidName) passed
      swapped true = refl
      swapped false = refl

      go : (o : Option (List ℕ)) → passed ≡ checked first o
          → cond (not (tested (spells uri) o)) passed (refused InvalidName) ≡ checked (λ (l : List ℕ). first l then cond (spells uri l) (refused InvalidName) passed) o
      go None f = cc
      go (Some l) f = swapped (spells uri l) ∙ ap (λ (k : Check). k then cond (spells uri l) (refused InvalidName) passed) f

module _ (b : List ℕ) (k : Check) where
  pub namespace-refused : (why : Fault) → k ≡ on_text check_text b → k ≡ Err why → refused why ≡ on_text check_namespace b
  unfolding check_namespace
  namespace-refused why e h = first-refuses check_text xmlns_uri b why (sym h ∙ e)

  pub namespace-read : k ≡ on_text check_text b → k ≡ passed → cond (not (spells xmlns_uri b)) passed (refused InvalidName) ≡ on_text check_namespace b
  unfolding check_namespace
  namespace-read e h = first-passes check_text xmlns_uri b refl (sym h ∙ e)

  pub binding-refused : (why : Fault) → k ≡ on_text check_namespace b → k ≡ Err why → refused why ≡ on_text check_namespace_binding b
  unfolding check_namespace_binding
  binding-refused why e h = first-refuses check_namespace xml_uri b why (sym h ∙ e)

  pub binding-read : k ≡ on_text check_namespace b → k ≡ passed → cond (not (spells xml_uri b)) passed (refused InvalidName) ≡ on_text check_namespace_binding b
  unfolding check_namespace_binding
  binding-read e h = first-passes check_namespace xml_uri b refl (sym h ∙ e)
