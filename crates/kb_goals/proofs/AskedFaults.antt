-- Where the first bad line of a text of questions is.
use Rattle.std.proofs.Common.{◌≡◌, refl, sym, subst, arith, ℕ, ◌+◌, ◌<◌, List, [], length, drop}
use Rattle.std.specs.Prelude.{⊤}
use Rattle.std.proofs.lemmas.List.{length-drop}
use Rattle.kb_term.specs.Signature.{Signature}
use Rattle.kb_text.specs.Fields.{IsTextFault}
use Rattle.kb_text.specs.Names.{Name}
use Rattle.kb_text.specs.Terms.{names_of}
use Rattle.kb_text.specs.declared.fault.TextFault.{TextFault}
use Rattle.kb_text.specs.declared.fault.TextFault.TheVariants.{BadText}
use Rattle.kb_checker.specs.Answers.{Answer}
use Rattle.kb_report.specs.Sections.{Items, Count, Word, BeginsWith, IsSectionFault}
use Rattle.kb_report.proofs.SystemForm.{end_word, AtEnd, FromEnd, goes_end}
use Rattle.kb_goals.specs.Asking.{AnswerLines, IsAskedText}
use Rattle.kb_goals.proofs.Ends.{answer_section}
use Rattle.kb_goals.proofs.Asked.{IsKind, FromItems, FromCount, Reads, count_of, end_of, goes_items, at_start, next, section_fault, behind_fault}

-- the answer was read, and the text goes on at t
pub record IsFrontRead (bytes t : List ℕ) (a : Answer) (lines : ℕ) : Type 0 where
  pub size : ℕ
  pub begins : BeginsWith AnswerLines bytes a lines (drop size bytes)
  pub back : t ≡ drop size bytes

-- how many are asked was read, and the text goes on at u
pub record IsCountRead (word t u : List ℕ) (n : ℕ) : Type 0 where
  pub size : ℕ
  pub begins : BeginsWith (Count word 256) t n 1 (drop size t)
  pub back : u ≡ drop size t

-- they were read, and the text goes on at v
pub record AreItemsRead {X : Type 0} (P : Signature → X → Type 0) (body : List Name → X → List ℕ) (a : Answer) (u v : List ℕ) (n : ℕ) : Type 0 where
  pub items : List X
  pub size : ℕ
  pub begins : BeginsWith (Items (P a.problem.signature) (λ k. body (names_of a.problem.signature)) n) u items n (drop size u)
  pub back : v ≡ drop size u

to_count : {X : Type 0} (word : List ℕ) (P : Signature → X → Type 0) (body : List Name → X → List ℕ) (bytes t : List ℕ) (a : Answer) (lines : ℕ) → IsFrontRead bytes t a lines → Reads word P body bytes t (lines + 1) (FromCount word P body a)
to_count word P body bytes t a lines f = next word P body AnswerLines (FromCount word P body) bytes bytes t 1 (lines + 1) a lines f.size answer_section (at_start word P body bytes) f.begins f.back (omega arith)

to_items : {X : Type 0} (word : List ℕ) (P : Signature → X → Type 0) (body : List Name → X → List ℕ) → IsKind word P body → (bytes t u : List ℕ) (a : Answer) (lines n : ℕ) → IsFrontRead bytes t a lines → IsCountRead word t u n → Reads word P body bytes u (lines + 1 + 1) (FromItems P body a.problem.signature n)
to_items word P body k bytes t u a lines n f c =
    next {Y = ℕ} word P body (Count word 256) (FromItems P body a.problem.signature) bytes t u (lines + 1) (lines + 1 + 1) n 1 c.size (count_of word k.word_without) (to_count word P body bytes t a lines f) c.begins c.back (omega arith)

to_end : {X : Type 0} (word : List ℕ) (P : Signature → X → Type 0) (body : List Name → X → List ℕ) → IsKind word P body → (bytes t u v : List ℕ) (a : Answer) (lines n : ℕ) → IsFrontRead bytes t a lines → IsCountRead word t u n → AreItemsRead P body a u v n → Reads word P body bytes v (lines + 1 + 1 + n) FromEnd
to_end word P body k bytes t u v a lines n f c i =
    let sig = a.problem.signature in
    next word P body (Items (P sig) (λ k. body (names_of sig)) n) (λ xs. FromEnd) bytes u v (lines + 1 + 1) (lines + 1 + 1 + n) i.items n i.size (k.section sig f.begins.section.0.form.signature n c.begins.section.0) (to_items word P body k bytes t u a lines n f c) i.begins i.back (omega arith)

pub count_fault : {X : Type 0} (word : List ℕ) (P : Signature → X → Type 0) (body : List Name → X → List ℕ) → IsKind word P body → (bytes t : List ℕ) (a : Answer) (lines : ℕ) → IsFrontRead bytes t a lines → (fault : TextFault) → IsSectionFault (Count word 256) t (lines + 1) fault → IsTextFault (IsAskedText word P body) bytes fault
count_fault word P body k bytes t a lines f fault b =
    section_fault {Y = ℕ} word P body k (Count word 256) (FromItems P body a.problem.signature) bytes t (lines + 1) (count_of word k.word_without) (goes_items word P body k a.problem.signature) (to_count word P body bytes t a lines f) fault b

pub items_fault : {X : Type 0} (word : List ℕ) (P : Signature → X → Type 0) (body : List Name → X → List ℕ) → IsKind word P body → (bytes t u : List ℕ) (a : Answer) (lines n : ℕ) → IsFrontRead bytes t a lines → IsCountRead word t u n → (fault : TextFault)
    → IsSectionFault (Items (P a.problem.signature) (λ k. body (names_of a.problem.signature)) n) u (lines + 1 + 1) fault → IsTextFault (IsAskedText word P body) bytes fault
items_fault word P body k bytes t u a lines n f c fault b =
    let sig = a.problem.signature in
    section_fault word P body k (Items (P sig) (λ k. body (names_of sig)) n) (λ xs. FromEnd) bytes u (lines + 1 + 1) (k.section sig f.begins.section.0.form.signature n c.begins.section.0) (λ xs. goes_end) (to_items word P body k bytes t u a lines n f c) fault b

pub end_fault : {X : Type 0} (word : List ℕ) (P : Signature → X → Type 0) (body : List Name → X → List ℕ) → IsKind word P body → (bytes t u v : List ℕ) (a : Answer) (lines n number : ℕ) → IsFrontRead bytes t a lines → IsCountRead word t u n → AreItemsRead P body a u v n → number ≡ lines + 1 + 1 + n → (fault : TextFault)
    → IsSectionFault (Word end_word) v number fault → IsTextFault (IsAskedText word P body) bytes fault
end_fault word P body k bytes t u v a lines n number f c i e fault b =
    section_fault {Y = ⊤} word P body k (Word end_word) (λ u. AtEnd) bytes v number end_of (λ u. ([], refl)) (subst (λ m. Reads word P body bytes v m FromEnd) (sym e) (to_end word P body k bytes t u v a lines n f c i)) fault b

-- something is left behind the last line
pub left_fault : {X : Type 0} (word : List ℕ) (P : Signature → X → Type 0) (body : List Name → X → List ℕ) → IsKind word P body → (bytes t u v : List ℕ) (a : Answer) (lines n number size : ℕ) → IsFrontRead bytes t a lines → IsCountRead word t u n → AreItemsRead P body a u v n → number ≡ lines + 1 + 1 + n + 1
    → BeginsWith (Word end_word) v tt 1 (drop size v) → size < length v → IsTextFault (IsAskedText word P body) bytes (BadText number)
left_fault word P body k bytes t u v a lines n number size f c i e b h =
    behind_fault word P body k bytes (drop size v) number
    (next {Y = ⊤} word P body (Word end_word) (λ u. AtEnd) bytes v (drop size v) (lines + 1 + 1 + n) number tt 1 size end_of (to_end word P body k bytes t u v a lines n f c i) b refl e) (omega (arith, length-drop size v))
