-- An answer's text has one line `END`, its last.
use Rattle.std.proofs.Common.{append_assoc, ◌≡◌, refl, ap, ap₂, sym, ◌∙◌, subst, arith, ℕ, ◌+◌, List, [], ◌∷◌, ◌++◌, length, get_or, All}
use Rattle.std.specs.Prelude.{decimal, ⊤}
use Rattle.std.proofs.lemmas.Bool.{false≢true}
use Rattle.std.proofs.lemmas.List.Elements.{All-nil, All-cons}
use Rattle.kb_term.specs.Rule.{Rule}
use Rattle.kb_term.specs.Signature.{Signature}
use Rattle.kb_term.specs.Tree.{Tree}
use Rattle.kb_term.specs.declared.origin.Origin.{Origin}
use Rattle.kb_term.specs.declared.origin.Origin.TheVariants.{Input, Rewrite, Overlap}
use Rattle.kb_text.specs.Fields.{IsWithout}
use Rattle.kb_text.specs.Names.{Name}
use Rattle.kb_text.specs.Terms.{names_of}
use Rattle.kb_text.proofs.Cuts.{AreWithout}
use Rattle.kb_cert.specs.declared.certificate.Certificate.{Certificate}
use Rattle.kb_cert.specs.declared.certificate.Certificate.TheVariants.{Lpo, Linear, Kbo}
use Rattle.kb_overlap.specs.Trace.{TraceStep}
use Rattle.kb_checker.specs.Answers.{Answer}
use Rattle.kb_report.specs.Answers.{IsTextOf}
use Rattle.kb_report.specs.declared.version.Version.{Version}
use Rattle.kb_report.specs.declared.version.Version.TheVariants.{First, Second}
use Rattle.kb_report.specs.Sections.{Lines, text_of, item_lines, counted_line}
use Rattle.kb_report.specs.SystemSections.{head_body, symbols_body, equation_body, rule_body, order_body, step_body}
use Rattle.kb_report.proofs.Fronts.{IsSection}
use Rattle.kb_report.proofs.LinesOfTexts.{same_lines}
use Rattle.kb_report.proofs.StepsRead.{are_without}
use Rattle.kb_report.proofs.SystemForm.{end_word, equations_word, rules_word, constraints_word, trace_word, constraint_part, lines_from_trace, lines_from_order, lines_from_constraints, lines_from_rules, lines_from_equations, system_lines, lines_without, text_is, one_spelled}
use Rattle.kb_goals.specs.Asking.{AnswerLines, AreOtherLines}

-- ---- lines that are not `END`

abbrev AreNotEnd : Lines → Type 0
AreNotEnd [] = ⊤
AreNotEnd (l ∷ ls) = (¬ (l ≡ end_word)) × AreNotEnd ls

no_space : (xs ys : List ℕ) → IsWithout 32 (xs ++ 32 ∷ ys) → ⊥
no_space [] ys h = false≢true (sym h.0)
no_space (x ∷ xs) ys h = no_space xs ys h.1

-- a line of several fields
spaced : (xs ys : List ℕ) → xs ++ 32 ∷ ys ≡ end_word → ⊥
spaced xs ys e = no_space xs ys (subst (IsWithout 32) (sym e) (refl, (refl, (refl, tt))))

head_not : (v : Version) → head_body v ≡ end_word → ⊥
head_not First e = absurd (let b : 77 ≡ 69 = ap (λ (xs : List ℕ). get_or xs 0 0) e in omega arith)
head_not Second e = absurd (let b : 77 ≡ 69 = ap (λ (xs : List ℕ). get_or xs 0 0) e in omega arith)

symbols_not : (sig : Signature) → symbols_body sig ≡ end_word → ⊥
symbols_not [] e = absurd (let b : 83 ≡ 69 = ap (λ (xs : List ℕ). get_or xs 0 0) e in omega arith)
symbols_not (f ∷ fs) e = absurd (let b : 83 ≡ 69 = ap (λ (xs : List ℕ). get_or xs 0 0) e in omega arith)

order_not : (names : List Name) (c : Certificate) → order_body names c ≡ end_word → ⊥
order_not names (Lpo symbols) e = absurd (let b : 79 ≡ 69 = ap (λ (xs : List ℕ). get_or xs 0 0) e in omega arith)
order_not names (Linear rows) e = absurd (let b : 79 ≡ 69 = ap (λ (xs : List ℕ). get_or xs 0 0) e in omega arith)
order_not names (Kbo order) e = absurd (let b : 79 ≡ 69 = ap (λ (xs : List ℕ). get_or xs 0 0) e in omega arith)

equations_not : (n : ℕ) → counted_line equations_word n ≡ end_word → ⊥
equations_not n e = absurd (let b : 81 ≡ 78 = ap (λ (xs : List ℕ). get_or xs 1 0) e in omega arith)

rules_not : (n : ℕ) → counted_line rules_word n ≡ end_word → ⊥
rules_not n e = absurd (let b : 82 ≡ 69 = ap (λ (xs : List ℕ). get_or xs 0 0) e in omega arith)

constraints_not : (n : ℕ) → counted_line constraints_word n ≡ end_word → ⊥
constraints_not n e = absurd (let b : 67 ≡ 69 = ap (λ (xs : List ℕ). get_or xs 0 0) e in omega arith)

trace_not : (n : ℕ) → counted_line trace_word n ≡ end_word → ⊥
trace_not n e = absurd (let b : 84 ≡ 69 = ap (λ (xs : List ℕ). get_or xs 0 0) e in omega arith)

equation_not : (names : List Name) (e : Tree × Tree) → equation_body names e ≡ end_word → ⊥
equation_not names e q = spaced _ _ q

rule_not : (names : List Name) (r : Rule × ℕ) → rule_body names r ≡ end_word → ⊥
rule_not names r q = spaced _ _ q

step_not : (names : List Name) (k : ℕ) (s : TraceStep) → step_body names k s ≡ end_word → ⊥
step_not names k s q = go s.origin refl
  where
    go : (o : Origin) → s.origin ≡ o → ⊥
    go (Input i) p = spaced (decimal k) _ (ap (λ (o : Origin). step_body names k (record { origin = o; pair = s.pair })) (sym p) ∙ q)
    go (Rewrite a w p' r) p = spaced (decimal k) _ (ap (λ (o : Origin). step_body names k (record { origin = o; pair = s.pair })) (sym p) ∙ q)
    go (Overlap a b p') p = spaced (decimal k) _ (ap (λ (o : Origin). step_body names k (record { origin = o; pair = s.pair })) (sym p) ∙ q)

items_not : {X : Type 0} (f : ℕ → X → List ℕ) → ((k : ℕ) (x : X) → f k x ≡ end_word → ⊥) → (k : ℕ) (xs : List X) → AreNotEnd (item_lines f k xs)
items_not f h k [] = tt
items_not f h k (x ∷ xs) = (h k x, items_not f h (k + 1) xs)

not_end-append : (xs ys : Lines) → AreNotEnd xs → AreNotEnd ys → AreNotEnd (xs ++ ys)
not_end-append [] ys f g = g
not_end-append (x ∷ xs) ys f g = (f.0, not_end-append xs ys f.1 g)

-- ---- they end once

record EndsOnce (lines : Lines) : Type 0 where
  before : Lines
  not_end : AreNotEnd before
  parts : lines ≡ before ++ end_word ∷ []

last_line : EndsOnce (end_word ∷ [])
last_line = record { before = []; not_end = tt; parts = refl }

line_and : (l : List ℕ) (ls : Lines) → (l ≡ end_word → ⊥) → EndsOnce ls → EndsOnce (l ∷ ls)
line_and l ls h e = record { before = l ∷ e.before; not_end = (h, e.not_end); parts = ap (l ∷◌) e.parts }

lines_and : (xs ls : Lines) → AreNotEnd xs → EndsOnce ls → EndsOnce (xs ++ ls)
lines_and xs ls h e = record { before = xs ++ e.before; not_end = not_end-append xs e.before h e.not_end; parts = ap (xs ++◌) e.parts ∙ sym (append_assoc xs e.before (end_word ∷ [])) }

part_not : (v : Version) (names : List Name) (cs : List (Rule × ℕ)) → AreNotEnd (constraint_part v names cs)
part_not First names cs = tt
part_not Second names cs = (constraints_not (length cs), items_not (λ k. rule_body names) (λ k. rule_not names) 1 cs)

system_ends : (v : Version) (a : Answer) → EndsOnce (system_lines v a)
system_ends v a =
    let sig = a.problem.signature in
    let names = names_of sig in
    let trace : EndsOnce (lines_from_trace names a.trace) = line_and (counted_line trace_word (length a.trace)) _ (trace_not (length a.trace)) (lines_and (item_lines (step_body names) 1 a.trace) (end_word ∷ []) (items_not (step_body names) (step_not names) 1 a.trace) last_line) in
    let order : EndsOnce (lines_from_order names a.cert a.trace) = line_and (order_body names a.cert) _ (order_not names a.cert) trace in
    let constraints : EndsOnce (lines_from_constraints v names a) = lines_and (constraint_part v names a.constraints) _ (part_not v names a.constraints) order in
    let rules : EndsOnce (lines_from_rules v names a) = line_and (counted_line rules_word (length a.rules)) _ (rules_not (length a.rules)) (lines_and (item_lines (λ k. rule_body names) 1 a.rules) _ (items_not (λ k. rule_body names) (λ k. rule_not names) 1 a.rules) constraints) in
    let equations : EndsOnce (lines_from_equations v names a) = line_and (counted_line equations_word (length a.problem.equations)) _ (equations_not (length a.problem.equations)) (lines_and (item_lines (λ k. equation_body names) 1 a.problem.equations) _ (items_not (λ k. equation_body names) (λ k. equation_not names) 1 a.problem.equations) rules) in
    line_and (head_body v) _ (head_not v) (line_and (symbols_body sig) _ (symbols_not sig) equations)

-- ---- an answer's lines

pub record IsEnded (lines : Lines) : Type 0 where
  pub before : Lines
  pub others : AreOtherLines before
  pub parts : lines ≡ before ++ end_word ∷ []

others_of : (before more : Lines) → AreWithout 10 (before ++ more) → AreNotEnd before → AreOtherLines before
others_of [] more w h = tt
others_of (l ∷ ls) more w h = ((w.0, h.0), others_of ls more w.1 h.1)

-- the lines of an answer's text are those of its system in one of the versions
pub record IsOfSystem (a : Answer) (lines : Lines) : Type 0 where
  pub version : Version
  pub lines_are : lines ≡ system_lines version a

pub of_system : (a : Answer) (lines : Lines) → AnswerLines a lines → IsOfSystem a lines
of_system a lines s =
    let t = s.0 in
    let v = t.version in
    record {
      version = v;
      lines_are = same_lines lines (system_lines v a) (are_without lines s.1) (lines_without (system_lines v a) (v, a, t.form, t.is_in, refl)) (t.spelling ∙ text_is v a);
    }

pub answer_ends : (a : Answer) (lines : Lines) → AnswerLines a lines → IsEnded lines
answer_ends a lines s =
    let o = of_system a lines s in
    let e = system_ends o.version a in
    let p = o.lines_are ∙ e.parts in
    record { before = e.before; others = others_of e.before (end_word ∷ []) (subst (AreWithout 10) p (are_without lines s.1)) e.not_end; parts = p }

all_without : (ls : Lines) → AreWithout 10 ls → All (IsWithout 10) ls
all_without [] w = All-nil (IsWithout 10)
all_without (l ∷ ls) w = All-cons (IsWithout 10) l ls w.0 (all_without ls w.1)

-- a text of an answer is that of its lines
pub record HasAnswerLines (text : List ℕ) (a : Answer) : Type 0 where
  pub lines : Lines
  pub section : AnswerLines a lines
  pub text_is : text ≡ text_of lines

pub answer_lines : (text : List ℕ) (a : Answer) → IsTextOf text a → HasAnswerLines text a
answer_lines text a t =
    let v = t.version in
    let e = t.spelling ∙ text_is v a in
    record {
      lines = system_lines v a;
      section = (subst (λ (x : List ℕ). IsTextOf x a) e t, all_without (system_lines v a) (lines_without (system_lines v a) (v, a, t.form, t.is_in, refl)));
      text_is = e;
    }

-- the lines before the first `END` are one list
pub one_end : (ps qs zs ws : Lines) → AreOtherLines ps → AreOtherLines qs → ps ++ end_word ∷ zs ≡ qs ++ end_word ∷ ws → ps ≡ qs
one_end [] [] zs ws f g e = refl
one_end [] (q ∷ qs) zs ws f g e = absurd (let s : q ≡ end_word = cc in g.0.1 s)
one_end (p ∷ ps) [] zs ws f g e = absurd (let s : p ≡ end_word = cc in f.0.1 s)
one_end (p ∷ ps) (q ∷ qs) zs ws f g e =
    let s : p ≡ q = cc in
    let t : ps ++ end_word ∷ zs ≡ qs ++ end_word ∷ ws = cc in
    ap₂ (λ (z : List ℕ) (zs : Lines). z ∷ zs) s (one_end ps qs zs ws f.1 g.1 t)

-- none of them is `END`
pub no_end : (lines before more : Lines) → AreOtherLines lines → lines ≡ before ++ end_word ∷ more → ⊥
no_end [] [] more f e = absurd (cc)
no_end [] (b ∷ bs) more f e = absurd (cc)
no_end (l ∷ ls) [] more f e = f.0.1 (let s : l ≡ end_word = cc in s)
no_end (l ∷ ls) (b ∷ bs) more f e = no_end ls bs more f.1 (let t : ls ≡ bs ++ end_word ∷ more = cc in t)

pub answer_section : IsSection AnswerLines
answer_section = record {
  without = λ a xs s. are_without xs s.1;
  one = λ a b xs ys zs ws s t e.
      let p = answer_ends a xs s in
      let q = answer_ends b ys t in
      let left : p.before ++ end_word ∷ zs ≡ xs ++ zs = sym (append_assoc p.before (end_word ∷ []) zs) ∙ ap (λ (ls : Lines). ls ++ zs) (sym p.parts) in
      let right : ys ++ ws ≡ q.before ++ end_word ∷ ws = ap (λ (ls : Lines). ls ++ ws) q.parts ∙ append_assoc q.before (end_word ∷ []) ws in
      let same = one_end p.before q.before zs ws p.others q.others (left ∙ e ∙ right) in
      let lines : xs ≡ ys = p.parts ∙ ap (λ (ls : Lines). ls ++ end_word ∷ []) same ∙ sym q.parts in
      (one_spelled (text_of xs) a b s.0 (subst (λ (ls : Lines). IsTextOf (text_of ls) b) (sym lines) t.0), lines);
}
