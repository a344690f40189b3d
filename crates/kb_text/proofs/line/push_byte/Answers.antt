use Rattle.std.proofs.Common.{append_assoc, ◌≡◌, ◌++◌, ◌∷◌, [], ◌==◌, ◌∙◌, ap, sym, List, ℕ, true}
use Rattle.std.specs.Prelude.{map}
use Rattle.std.specs.List.{slice_split}
use Rattle.std.proofs.lemmas.Bool.{eq-eqb, ne_eqb}
use Rattle.std.proofs.lemmas.List.{map-append}
use Rattle.kb_text.specs.Fields.{behind}
use Rattle.kb_text.proofs.NameLists.{NameVec}
use Rattle.kb_text.proofs.Cuts.{cut_here, cut_later}
use Rattle.kb_text.proofs.line.push_byte.Goals as goal

abbrev all : List NameVec → List (List ℕ)
all ps = map (λ (f : NameVec). f.items) ps

pushed_here : (s b : ℕ) (olds news : List NameVec) (whole old new : NameVec) (rest : List ℕ) → news ≡ olds ++ whole ∷ [] → whole ≡ old → new.items ≡ [] → (b == s) ≡ true
    → all news ++ behind new.items (slice_split (λ b. b == s) rest) ≡ all olds ++ behind old.items (slice_split (λ b. b == s) (b ∷ rest))
pushed_here s b olds news whole old new rest p w n h =
    let left = slice_split (λ b. b == s) rest in
    ap (λ (ps : List NameVec). all ps ++ behind new.items left) p
    ∙ ap (λ (xs : List ℕ). all (olds ++ whole ∷ []) ++ behind xs left) n
    ∙ ap (λ (xs : List (List ℕ)). xs ++ behind [] left) (map-append (λ (f : NameVec). f.items) olds (whole ∷ []))
    ∙ append_assoc (all olds) (whole.items ∷ []) (behind [] left)
    ∙ ap (λ (v : NameVec). all olds ++ v.items ∷ behind [] left) w
    ∙ ap (all olds ++◌) (sym (cut_here s b old.items rest h))

pub returns-then-b-separator : goal.returns-then-b-separator
returns-then-b-separator c = λ rest.
    pushed_here c.args.separator c.args.b c.args.parts.now.items c.push.new.self.items c.replace-whole.result c.args.part.now c.replace-whole.new.dest rest
    c.in_ok-push.ensures.items c.replace-whole.ensures.value (ap (λ (v : NameVec). v.items) c.replace-whole.ensures.after ∙ c.new.ensures.items)
    (eq-eqb c.args.b c.args.separator c.if-b-separator.true)

pub returns : goal.returns
returns c = λ rest.
    let b = c.args.b in
    let s = c.args.separator in
    let olds = all c.args.parts.now.items in
    ap (olds ++◌) (ap (λ (xs : List ℕ). behind xs (slice_split (λ b. b == s) rest)) c.in_ok-push-2.ensures.items ∙ sym (cut_later s b c.args.part.now.items rest (ne_eqb b s c.if-b-separator.false)))
