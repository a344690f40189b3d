use Rattle.std.proofs.Common.{append_assoc, ◌++◌, ◌∙◌, ap, sym, List, ℕ}
use Rattle.std.specs.Prelude.{map, take}
use Rattle.std.specs.List.{join_with_byte}
use Rattle.kb_text.specs.Lines.{parted}
use Rattle.kb_text.proofs.NameLists.{NameVec}
use Rattle.kb_text.proofs.LineLaws.{join_more}
use Rattle.kb_text.proofs.FrontParts.{front_of_front}
use Rattle.kb_text.proofs.line.push_joined.Goals as goal

pub loop-i-preserved : goal.loop-i-preserved
loop-i-preserved c =
    let fields = c.args.fields.now in
    let before = join_with_byte c.args.separator (map (λ (f : NameVec). f.items) (take c.loop-i.i fields)) in
    c.in_ok-push_field.ensures.ok
    ∙ ap (λ (bytes : List ℕ). bytes ++ parted c.args.separator c.loop-i.i c.deref.result.now) c.loop-i.invariant
    ∙ append_assoc c.args.out.now.items before (parted c.args.separator c.loop-i.i c.deref.result.now)
    ∙ ap (c.args.out.now.items ++◌) (ap (λ (bytes : List ℕ). before ++ parted c.args.separator c.loop-i.i bytes) (c.deref.ensures.value ∙ ap (λ (f : NameVec). f.items) c.index-fields-i.is) ∙ sym (join_more c.args.separator fields c.loop-i.i c.index-fields-i.result c.loop-i-test.true))

pub returns-in_err-push_field-clause-front : goal.returns-in_err-push_field-clause-front
returns-in_err-push_field-clause-front c =
    front_of_front c.args.out.now.items (join_with_byte c.args.separator (map (λ (f : NameVec). f.items) (take c.loop-i.i c.args.fields.now))) c.loop-i.out.items c.push_field.new.out.items c.loop-i.invariant c.push_field.ensures.front
