-- What each rule accepts is what the checks say of the whole text.
-- Assumes nothing.
use mathlib.Core.Path.{◌≡◌, refl, sym, ap, ◌∙◌}
use mathlib.Core.Bool.{Bool, true, false, not, ◌&&◌, ◌||◌, cond, and-false}
use mathlib.Core.List.{List, [], ◌∷◌}
use Prim.Native.Nat.{ℕ}
use native.Mathlib.Omega.{arith}
use lib.Dec.{eqb}
use borrow.Author.Tests.{eqb-true}
use Rattle.words.specs.Lists.{all}
use Rattle.chars.specs.declared.Rule.{Rule}
use Rattle.chars.specs.declared.Rule.TheVariants.{Text, Literal, Comment, PiData, Name, WhiteSpace}
use Rattle.chars.specs.declared.State.{State}
use Rattle.chars.specs.declared.State.TheVariants.{Start, Inside, Mark, Failed}
use Rattle.chars.specs.Productions.{within, is_char, is_char11}
use Rattle.chars.specs.Classes.{class_of, continues_name, is_nc_name}
use Rattle.chars.specs.Checks.{contains, ends_with, is_literal, is_space}
use Rattle.chars.specs.Scan.{is_name, inside_if, comment_next, pi_next, name_next, next, turn, run, may_end}

-- whether the rule accepts the text from a state on
abbrev pub accepts : Rule → State → List ℕ → Bool
accepts rule s l = may_end rule (run rule s l)

failed : (rule : Rule) (l : List ℕ) → accepts rule Failed l ≡ false
unfolding may_end turn
failed rule [] = refl
failed rule (c ∷ l) = failed rule l

-- ---- the rules that ask the same of every code point

module _ (rule : Rule) (p : ℕ → Bool) (asks : (s : State) (c : ℕ) → next rule s c ≡ inside_if (p c)) where
  chosen : (c : ℕ) (l : List ℕ) → accepts rule Inside l ≡ all p l → accepts rule (inside_if (p c)) l ≡ (p c && all p l)
  chosen c l ih = go (p c)
    where
      go : (t : Bool) → accepts rule (inside_if t) l ≡ (t && all p l)
      go true = ih
      go false = failed rule l

  all-inside : (l : List ℕ) → accepts rule Inside l ≡ all p l
  unfolding may_end turn
  all-inside [] = refl
  all-inside (c ∷ l) = ap (λ (s : State). accepts rule s l) (asks Inside c) ∙ chosen c l (all-inside l)

  pub all-accepted : is_name rule ≡ false → (l : List ℕ) → accepts rule Start l ≡ all p l
  unfolding may_end turn
  all-accepted n [] = rw n
  all-accepted n (c ∷ l) = ap (λ (s : State). accepts rule s l) (asks Start c) ∙ chosen c l (all-inside l)

pub text-accepted : (l : List ℕ) → accepts Text Start l ≡ all is_char11 l
unfolding next
text-accepted = all-accepted Text is_char11 (λ s c. refl) refl

pub literal-accepted : (l : List ℕ) → accepts Literal Start l ≡ all is_literal l
unfolding next
literal-accepted = all-accepted Literal is_literal (λ s c. refl) refl

pub space-accepted : (l : List ℕ) → accepts WhiteSpace Start l ≡ all is_space l
unfolding next
space-accepted = all-accepted WhiteSpace is_space (λ s c. refl) refl

-- ---- names

name-inside : (l : List ℕ) → accepts Name Inside l ≡ all (continues_name class_of) l
unfolding may_end turn next name_next
name-inside [] = refl
name-inside (c ∷ l) = go (eqb c 0x3A) (eqb (class_of c) 2) (eqb (class_of c) 1) (name-inside l)
  where
    go : (s t u : Bool) → accepts Name Inside l ≡ all (continues_name class_of) l
        → accepts Name (cond s Failed (cond t Inside (inside_if (true && u)))) l ≡ (not s && (u || t) && all (continues_name class_of) l)
    go true t u ih = failed Name l
    go false true true ih = ih
    go false true false ih = ih
    go false false true ih = ih
    go false false false ih = failed Name l

pub name-accepted : (l : List ℕ) → accepts Name Start l ≡ is_nc_name class_of l
unfolding may_end turn next name_next is_nc_name
name-accepted [] = refl
name-accepted (c ∷ l) = go (eqb c 0x3A) (eqb (class_of c) 2) (name-inside l)
  where
    go : (s t : Bool) → accepts Name Inside l ≡ all (continues_name class_of) l
        → accepts Name (cond s Failed (cond t Inside (inside_if (false && eqb (class_of c) 1)))) l ≡ (not s && t && all (continues_name class_of) l)
    go true t ih = failed Name l
    go false true ih = ih
    go false false ih = failed Name l

-- ---- comments

abbrev pub is_comment_text : List ℕ → Bool
is_comment_text l = all is_literal l && not (contains 0x2D 0x2D l || ends_with 0x2D l)

dash-literal : is_literal 0x2D ≡ true
unfolding is_literal is_char within
dash-literal = refl

-- a code point that is no dash changes nothing
other : (c : ℕ) (l : List ℕ) → is_literal c ≡ true → eqb c 0x2D ≡ false → is_comment_text (c ∷ l) ≡ is_comment_text l
other c [] h n = rw (h, n)
other c (x ∷ l) h n = rw (h, n)

illiteral : (c : ℕ) (l : List ℕ) → is_literal c ≡ false → is_comment_text (c ∷ l) ≡ false
illiteral c l h = rw h

-- after a dash another one fails, and any other code point may follow
doubled : (c : ℕ) (l : List ℕ) → eqb c 0x2D ≡ true → is_comment_text (0x2D ∷ c ∷ l) ≡ false
doubled c l e = rw e (and-false (is_literal 0x2D && (is_literal c && all is_literal l)))

after-dash : (c : ℕ) (l : List ℕ) → eqb c 0x2D ≡ false → is_comment_text (0x2D ∷ c ∷ l) ≡ is_comment_text (c ∷ l)
after-dash c l n = rw (dash-literal, n)

module _ (c : ℕ) (l : List ℕ) (after_any : accepts Comment Inside l ≡ is_comment_text l) (after-mark : accepts Comment Mark l ≡ is_comment_text (0x2D ∷ l)) where
  comment-any : (s t : Bool) → is_literal c ≡ s → eqb c 0x2D ≡ t → accepts Comment (cond s (cond t Mark Inside) Failed) l ≡ is_comment_text (c ∷ l)
  comment-any false t h e = failed Comment l ∙ sym (illiteral c l h)
  comment-any true true h e = after-mark ∙ ap (λ (x : ℕ). is_comment_text (x ∷ l)) (sym (eqb-true c 0x2D e))
  comment-any true false h e = after_any ∙ sym (other c l h e)

  comment-mark : (s t : Bool) → is_literal c ≡ s → eqb c 0x2D ≡ t
      → accepts Comment (cond s (cond t Failed Inside) Failed) l ≡ is_comment_text (0x2D ∷ c ∷ l)
  comment-mark false true h e = failed Comment l ∙ sym (doubled c l e)
  comment-mark false false h e = failed Comment l ∙ sym (after-dash c l e ∙ illiteral c l h)
  comment-mark true true h e = failed Comment l ∙ sym (doubled c l e)
  comment-mark true false h e = after_any ∙ sym (after-dash c l e ∙ other c l h e)

comment-both : (l : List ℕ) → (accepts Comment Inside l ≡ is_comment_text l) × (accepts Comment Mark l ≡ is_comment_text (0x2D ∷ l))
unfolding may_end turn next comment_next
comment-both [] = (refl, rw dash-literal)
comment-both (c ∷ l) =
    let ih = comment-both l in
    (comment-any c l ih.0 ih.1 (is_literal c) (eqb c 0x2D) refl refl, comment-mark c l ih.0 ih.1 (is_literal c) (eqb c 0x2D) refl refl)

pub comment-accepted : (l : List ℕ) → accepts Comment Start l ≡ is_comment_text l
unfolding may_end turn next comment_next
comment-accepted [] = refl
comment-accepted (c ∷ l) =
    let ih = comment-both l in
    comment-any c l ih.0 ih.1 (is_literal c) (eqb c 0x2D) refl refl

-- ---- PI data

abbrev pub is_pi_text : List ℕ → Bool
is_pi_text l = all is_literal l && not (contains 0x3F 0x3E l)

mark-literal : is_literal 0x3F ≡ true
unfolding is_literal is_char within
mark-literal = refl

pi-illiteral : (c : ℕ) (l : List ℕ) → is_literal c ≡ false → is_pi_text (c ∷ l) ≡ false
pi-illiteral c l h = rw h

pi-other : (c : ℕ) (l : List ℕ) → is_literal c ≡ true → eqb c 0x3F ≡ false → is_pi_text (c ∷ l) ≡ is_pi_text l
pi-other c [] h n = rw h
pi-other c (x ∷ l) h n = rw (h, n)

closed : (c : ℕ) (l : List ℕ) → eqb c 0x3E ≡ true → is_pi_text (0x3F ∷ c ∷ l) ≡ false
closed c l e = rw e (and-false (is_literal 0x3F && (is_literal c && all is_literal l)))

open-still : (c : ℕ) (l : List ℕ) → eqb c 0x3E ≡ false → is_pi_text (0x3F ∷ c ∷ l) ≡ is_pi_text (c ∷ l)
open-still c l n = rw (mark-literal, n)

module _ (c : ℕ) (l : List ℕ) (after_any : accepts PiData Inside l ≡ is_pi_text l) (after-mark : accepts PiData Mark l ≡ is_pi_text (0x3F ∷ l)) where
  pi-marked : eqb c 0x3F ≡ true → accepts PiData Mark l ≡ is_pi_text (c ∷ l)
  pi-marked e = after-mark ∙ ap (λ (x : ℕ). is_pi_text (x ∷ l)) (sym (eqb-true c 0x3F e))

  pi-any : (s t u : Bool) → is_literal c ≡ s → eqb c 0x3F ≡ t
      → accepts PiData (cond s (cond t Mark (cond u Inside Inside)) Failed) l ≡ is_pi_text (c ∷ l)
  pi-any false t u h e = failed PiData l ∙ sym (pi-illiteral c l h)
  pi-any true true u h e = pi-marked e
  pi-any true false true h e = after_any ∙ sym (pi-other c l h e)
  pi-any true false false h e = after_any ∙ sym (pi-other c l h e)

  pi-mark : (s t u : Bool) → is_literal c ≡ s → eqb c 0x3F ≡ t → eqb c 0x3E ≡ u
      → accepts PiData (cond s (cond t Mark (cond u Failed Inside)) Failed) l ≡ is_pi_text (0x3F ∷ c ∷ l)
  pi-mark false t true h e f = failed PiData l ∙ sym (closed c l f)
  pi-mark false t false h e f = failed PiData l ∙ sym (open-still c l f ∙ pi-illiteral c l h)
  pi-mark true true true h e f =
      let z : ◌≡◌ {A = ℕ} 0x3F 0x3E = sym (eqb-true c 0x3F e) ∙ eqb-true c 0x3E f in
      absurd (omega arith)
  pi-mark true true false h e f = pi-marked e ∙ sym (open-still c l f)
  pi-mark true false true h e f = failed PiData l ∙ sym (closed c l f)
  pi-mark true false false h e f = after_any ∙ sym (open-still c l f ∙ pi-other c l h e)

pi-both : (l : List ℕ) → (accepts PiData Inside l ≡ is_pi_text l) × (accepts PiData Mark l ≡ is_pi_text (0x3F ∷ l))
unfolding may_end turn next pi_next
pi-both [] = (refl, rw mark-literal)
pi-both (c ∷ l) =
    let ih = pi-both l in
    (pi-any c l ih.0 ih.1 (is_literal c) (eqb c 0x3F) (eqb c 0x3E) refl refl, pi-mark c l ih.0 ih.1 (is_literal c) (eqb c 0x3F) (eqb c 0x3E) refl refl refl)

pub pi-accepted : (l : List ℕ) → accepts PiData Start l ≡ is_pi_text l
unfolding may_end turn next pi_next
pi-accepted [] = refl
pi-accepted (c ∷ l) =
    let ih = pi-both l in
    pi-any c l ih.0 ih.1 (is_literal c) (eqb c 0x3F) (eqb c 0x3E) refl refl
