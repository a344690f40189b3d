use Rattle.std.proofs.Common.{◌++◌, ◌==◌, ◌+◌, ◌∙◌, ap₂, sym, List, ℕ, drop}
use Rattle.std.specs.Prelude.{map}
use Rattle.std.specs.List.{slice_split}
use Rattle.std.proofs.lemmas.List.{at_drop_more}
use Rattle.kb_text.specs.Fields.{behind}
use Rattle.kb_text.proofs.NameLists.{NameVec}
use Rattle.kb_text.proofs.Cuts.{cut_start}
use Rattle.kb_text.proofs.line.parts_of.Goals as goal

pub loop-i-init : goal.loop-i-init
loop-i-init c =
    let s = c.args.separator in
    let text = c.args.text.now in
    ap₂ (λ (ps : List NameVec) (xs : List ℕ). map (λ (f : NameVec). f.items) ps ++ behind xs (slice_split (λ b. b == s) text)) c.new-parts.ensures.items c.new-part.ensures.items ∙ cut_start s text

pub loop-i-preserved : goal.loop-i-preserved
loop-i-preserved c =
    let s = c.args.separator in
    let text = c.args.text.now in
    let i = c.loop-i.i in
    c.in_ok-push_byte.ensures (drop (i + 1) text)
    ∙ sym (at_drop_more (λ xs. map (λ (f : NameVec). f.items) c.loop-i.parts.items ++ behind c.loop-i.part.items (slice_split (λ b. b == s) xs)) text i 0 c.loop-i-test.true)
    ∙ c.loop-i.invariant
