use Rattle.std.proofs.Common.{ℕ, zero, suc, ◌-◌, ◌≡◌, refl, sym, ap, ◌∙◌, subst, arith, List, [], ◌∷◌, ◌++◌, All, length, length-append, Some, Bool, Result, Ok, Err}
use Rattle.std.specs.Prelude.{IfOk, IsTrue, ◌↔◌, slice_get}
use Rattle.std.proofs.lemmas.List.Elements.{All-head, All-tail}
use Rattle.kb_lemmas.proofs.Options.{none_some}
use Rattle.kb_term.specs.declared.memory.Memory.{Memory}
use Rattle.mkb_model.specs.Plain.{PlainNode}
use Rattle.mkb_model.specs.declared.entry.Entry.{Entry}
use Rattle.mkb_rules.specs.Parts.{plain_nodes}
use Rattle.kb_journal.specs.declared.entry_line.EntryLine.{EntryLine}
use Rattle.kb_journal.specs.EntryLines.{line_of, IsEntryOn}
use Rattle.kb_journal.proofs.Kept.{board_on}
use Rattle.kb_journal.proofs.replaying.is_last.Goals as goal

some_in : (P : Entry → Type 0) (xs : List Entry) (k : ℕ) (x : Entry) → All P xs → slice_get xs k ≡ Some x → P x
some_in P [] k x a e = none_some e
some_in P (y ∷ ys) zero x a e = let same : y ≡ x = cc in subst P same (All-head P y ys a)
some_in P (y ∷ ys) (suc k) x a e = some_in P ys k x (All-tail P y ys a) e

get_last : (front : List Entry) (e : Entry) → slice_get (front ++ e ∷ []) (length front) ≡ Some e
get_last [] e = refl
get_last (x ∷ xs) e = get_last xs e

last_is : (J front : List Entry) (e x : Entry) → J ≡ front ++ e ∷ [] → Some x ≡ slice_get J (length J - 1) → x ≡ e
last_is J front e x j s =
    let place : length (front ++ e ∷ []) - 1 ≡ length front = omega (arith, length-append front (e ∷ [])) in
    let some : Some x ≡ Some e = s ∙ ap (λ (K : List Entry). slice_get K (length K - 1)) j ∙ ap (slice_get (front ++ e ∷ [])) place ∙ get_last front e in
    cc

pub line_of-requires : goal.line_of-requires
line_of-requires c =
    let b = c.args.board.now in
    let all = subst {A = List PlainNode} (λ xs. All (IsEntryOn xs) b.journal) (sym c.nodes.ensures) (board_on b c.journal.ensures.legal) in
    some_in (IsEntryOn (plain_nodes c.nodes.result.now)) b.journal _ c.in-Some.entry.now all (ap (λ (J : List Entry). slice_get J (length J - 1)) (sym c.journal.ensures.journal) ∙ sym c.in-Some.ensures.value)

told : (J : List Entry) (xs : List PlainNode) (line made : EntryLine) (x : Entry) (r : Result Bool Memory) → made ≡ line_of xs x → ((front : List Entry) (e : Entry) → J ≡ front ++ e ∷ [] → x ≡ e) → IfOk r (λ same. IsTrue same ↔ (made ≡ line))
    → IfOk r (λ same. (front : List Entry) (e : Entry) → J ≡ front ++ e ∷ [] → IsTrue same ↔ (line_of xs e ≡ line))
told J xs line made x (Ok same) m l h = λ front e j. (let eq = ap (line_of xs) (sym (l front e j)) ∙ sym m in (λ t. eq ∙ h.0 t, λ q. h.1 (sym eq ∙ q)))
told J xs line made x (Err f) m l h = tt

pub returns-clause-same : goal.returns-clause-same
returns-clause-same c =
    let b = c.args.board.now in
    told b.journal b.plain.nodes c.args.line.now c.in_ok-made.made c.in-Some.entry.now c.is_same.result (c.in_ok-made.ensures ∙ ap (λ xs. line_of xs c.in-Some.entry.now) c.nodes.ensures)
    (λ front e j. last_is b.journal front e c.in-Some.entry.now j (c.in-Some.ensures.value ∙ ap (λ (J : List Entry). slice_get J (length J - 1)) c.journal.ensures.journal))
    c.is_same.ensures
