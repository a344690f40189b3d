-- A section and another one behind it.
use Rattle.std.proofs.Common.{append_assoc, ◌≡◌, refl, ap, ap₂, sym, ◌∙◌, subst, arith, ℕ, ◌+◌, List, ◌∷◌, ◌++◌, length-append, drop}
use Rattle.std.proofs.lemmas.List.{drop-drop, append_cancel_left}
use Rattle.kb_text.specs.declared.fault.TextFault.{TextFault}
use Rattle.kb_text.specs.declared.fault.TextFault.TheVariants.{BadText, Memory}
use Rattle.kb_text.proofs.Cuts.{AreWithout, are_without-append}
use Rattle.kb_report.specs.Sections.{Lines, text_of, Section, Both, BeginsWith, IsSectionFault}
use Rattle.kb_report.proofs.LinesOfTexts.{text_of-append}
use Rattle.kb_report.proofs.Fronts.{IsSection, Then, IsReadTo, cut, none_ends}

pub both_section : {X Y : Type 0} (S : Section X) (Next : X → Section Y) → IsSection S → ((x : X) (xs : Lines) → S x xs → IsSection (Next x)) → IsSection (Both S Next)
both_section {X} {Y} S Next i j = record {
  without = λ p xs s. subst (AreWithout 10) (sym s.4) (are_without-append 10 s.0 s.1 (i.without p.0 s.0 s.2) ((j p.0 s.0 s.2).without p.1 s.1 s.3));
  one = same;
}
  where
    same : (p q : X × Y) (xs ys zs ws : Lines) → Both S Next p xs → Both S Next q ys → xs ++ zs ≡ ys ++ ws → (p ≡ q) × (xs ≡ ys)
    same (x, y) (u, v) xs ys zs ws (f, b, s, t, e) (g, c, k, l, h) m =
        let whole : f ++ (b ++ zs) ≡ g ++ (c ++ ws) = sym (append_assoc f b zs) ∙ ap (λ (ls : Lines). ls ++ zs) (sym e) ∙ m ∙ ap (λ (ls : Lines). ls ++ ws) h ∙ append_assoc g c ws in
        let o = i.one x u f g (b ++ zs) (c ++ ws) s k whole in
        let rest : b ++ zs ≡ c ++ ws = append_cancel_left f (b ++ zs) (c ++ ws) (whole ∙ ap (λ (ls : Lines). ls ++ (c ++ ws)) (sym o.1)) in
        let r = (j u g k).one y v b c zs ws (subst (λ (z : X). Next z y b) o.0 t) l rest in
        (ap₂ (λ (z : X) (w : Y). (z, w)) o.0 r.0, e ∙ ap₂ (λ (ls ms : Lines). ls ++ ms) o.1 r.1 ∙ sym h)

-- some value has a section
abbrev pub HasSome : {Y : Type 0} → Section Y → Type 0
HasSome {Y} S = (y : Y) × (ys : Lines) × S y ys

pub both_some : {X Y : Type 0} (S : Section X) (Next : X → Section Y) → HasSome S → ((x : X) (xs : Lines) → S x xs → HasSome (Next x)) → HasSome (Both S Next)
both_some S Next s n =
    let t = n s.0 s.1 s.2 in
    ((s.0, t.0), s.1 ++ t.1, (s.1, t.1, s.2, t.2, refl))

-- the second section was read behind the first
pub read_both : {X Y : Type 0} (S : Section X) (Next : X → Section Y) (text tail : List ℕ) (x : X) (y : Y) (m n count line size bytes : ℕ) → tail ≡ drop line text → count ≡ m + n → bytes ≡ line + size → BeginsWith S text x m (drop line text) → BeginsWith (Next x) tail y n (drop size tail)
    → BeginsWith (Both S Next) text (x, y) count (drop bytes text)
read_both S Next text tail x y m n count line size bytes e c k b d =
    let first = b.count_is in
    let second = d.count_is in
    let back : drop size tail ≡ drop bytes text = ap (drop size) e ∙ drop-drop size line text ∙ ap (λ k. drop k text) (sym k) in
    record {
      lines = b.lines ++ d.lines;
      section = (b.lines, d.lines, b.section, d.section, refl);
      count_is = omega (arith, length-append b.lines d.lines);
      parts = b.parts ∙ ap (text_of b.lines ++◌) (sym e ∙ d.parts) ∙ sym (append_assoc (text_of b.lines) (text_of d.lines) (drop size tail)) ∙ ap₂ (λ (t u : List ℕ). t ++ u) (sym (text_of-append b.lines d.lines)) back;
    }

-- a fault of the first section is one of both
pub first_fault : {X Y : Type 0} (S : Section X) (Next : X → Section Y) (text : List ℕ) (first : ℕ) → IsSection S → ((x : X) (xs : Lines) → S x xs → HasSome (Next x)) → (fault : TextFault) → IsSectionFault S text first fault → IsSectionFault (Both S Next) text first fault
first_fault S Next text first i some Memory b = tt
first_fault {X} {Y} S Next text first i some (BadText number) b = record {
  lines = b.lines;
  number_is = b.number_is;
  rest = b.rest;
  parts = b.parts;
  begin =
      let n = some b.begin.0 (b.lines ++ b.begin.1) b.begin.2 in
      ((b.begin.0, n.0), b.begin.1 ++ n.1, (b.lines ++ b.begin.1, n.1, b.begin.2, n.2, sym (append_assoc b.lines b.begin.1 n.1)));
  with_it = λ line back w p v more s. cut s.0 s.1 b.lines line more (sym s.4) (λ rest h. b.with_it line back w p v.0 rest (subst (S v.0) h s.2)) (none_ends S text first number i b v.0 s.0 s.2);
  not_whole = λ v s. none_ends S text first number i b v.0 s.0 s.2 s.1 s.4;
}

-- and so is one of the second section, behind the first
pub second_fault : {X Y : Type 0} (S : Section X) (Next : X → Section Y) (text tail : List ℕ) (x : X) (m line first second : ℕ) → IsSection S → tail ≡ drop line text → second ≡ first + m → BeginsWith S text x m (drop line text) → (fault : TextFault) → IsSectionFault (Next x) tail second fault
    → IsSectionFault (Both S Next) text first fault
second_fault S Next text tail x m line first second i e n b Memory d = tt
second_fault {X} {Y} S Next text tail x m line first second i e n b (BadText number) d =
    let number_is = d.number_is in
    let count_is = b.count_is in
    record {
      lines = b.lines ++ d.lines;
      number_is = omega (arith, length-append b.lines d.lines);
      rest = d.rest;
      parts = b.parts ∙ ap (text_of b.lines ++◌) (sym e ∙ d.parts) ∙ sym (append_assoc (text_of b.lines) (text_of d.lines) d.rest) ∙ ap (λ (t : List ℕ). t ++ d.rest) (sym (text_of-append b.lines d.lines));
      begin = ((x, d.begin.0), d.begin.1, (b.lines, d.lines ++ d.begin.1, b.section, d.begin.2, append_assoc b.lines d.lines d.begin.1));
      with_it = λ line back w p v more s.
          let t = behind v s (d.lines ++ line ∷ more) (append_assoc b.lines d.lines (line ∷ more)) in
          d.with_it line back w p v.1 more t;
      not_whole = λ v s. d.not_whole v.1 (behind v s d.lines refl);
    }
  where
    -- the second section's lines, behind those of the first
    behind : (v : X × Y) {lines : Lines} → Both S Next v lines → (more : Lines) → lines ≡ b.lines ++ more → Next x v.1 more
    behind v {lines} s more h =
        let o = i.one x v.0 b.lines s.0 more s.1 b.section s.2 (sym h ∙ s.4) in
        let rest : s.1 ≡ more = append_cancel_left b.lines s.1 more (ap (λ (ls : Lines). ls ++ s.1) o.1 ∙ sym s.4 ∙ h) in
        subst (λ (z : X). Next z v.1 more) (sym o.0) (subst (Next v.0 v.1) rest s.3)

-- ---- in a text of sections

-- a section with another behind it stands for both
pub to_both : {X Y : Type 0} (S : Section X) (Next : X → Section Y) (More : X → Y → Lines → Type 0) (lines : Lines) → Then S (λ x. Then (Next x) (More x)) lines → Then (Both S Next) (λ p. More p.0 p.1) lines
to_both S Next More lines (x, xs, ys, s, (y, us, vs, t, m, g), e) = ((x, y), xs ++ us, vs, (xs, us, s, t, refl), m, e ∙ ap (xs ++◌) g ∙ sym (append_assoc xs us vs))

pub from_both : {X Y : Type 0} (S : Section X) (Next : X → Section Y) (More : X → Y → Lines → Type 0) (lines : Lines) → Then (Both S Next) (λ p. More p.0 p.1) lines → Then S (λ x. Then (Next x) (More x)) lines
from_both S Next More lines ((x, y), ls, vs, (xs, us, s, t, h), m, e) = (x, xs, us ++ vs, s, (y, us, vs, t, m, refl), e ∙ ap (λ (l : Lines). l ++ vs) h ∙ append_assoc xs us vs)

-- what follows may be told otherwise
pub then_as : {X : Type 0} (S : Section X) (A B : X → Lines → Type 0) → ((x : X) (lines : Lines) → A x lines → B x lines) → (lines : Lines) → Then S A lines → Then S B lines
then_as S A B f lines (x, xs, ys, s, a, e) = (x, xs, ys, s, f x ys a, e)

pub read_as : {Form A B : Lines → Type 0} {text rest : List ℕ} {number : ℕ} → ((lines : Lines) → A lines → B lines) → ((lines : Lines) → B lines → A lines) → IsReadTo Form text rest number A → IsReadTo Form text rest number B
read_as f g r = record {
  lines = r.lines;
  number_is = r.number_is;
  without = r.without;
  parts = r.parts;
  left = λ more h. f more (r.left more h);
  right = λ more h. r.right more (g more h);
}
