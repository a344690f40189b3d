use Rattle.std.proofs.Common.{◌≡◌, ℕ, ◌∷◌, ◌++◌, [], ap, ◌∙◌, append_assoc, arith}
use Rattle.std.specs.Prelude.{flat_map}
use Rattle.std.specs.List.{range_with_len}
use Rattle.kb_text.specs.Terms.{names_of, variable_text}
use Rattle.kb_text.proofs.FrontParts.{front_of_front}
use Rattle.kb_text.proofs.PrintLaws.{variables_more}
use Rattle.kb_text.proofs.printer.push_variables.Goals as goal

pub loop-n-preserved : goal.loop-n-preserved
loop-n-preserved c =
    variables_more (names_of c.args.signature.now) c.args.prefix c.loop-n.n c.args.out.now.items c.loop-n.out.items c.push.new.self.items c.push_letters.new.out.items c.push_number.new.out.items c.requires c.loop-n.invariant
    c.in_ok-push.ensures.items c.in_ok-push_letters.ensures.ok c.in_ok-push_number.ensures.ok

pub returns-in_err-push_letters-clause-front : goal.returns-in_err-push_letters-clause-front
returns-in_err-push_letters-clause-front c =
    let old = c.args.out.now.items in
    let written = flat_map (λ (n : ℕ). 32 ∷ variable_text (names_of c.args.signature.now) n) (range_with_len 0 c.loop-n.n) in
    front_of_front old (written ++ 32 ∷ []) c.push.new.self.items c.push_letters.new.out.items
    (c.in_ok-push.ensures.items ∙ ap (λ xs. xs ++ 32 ∷ []) c.loop-n.invariant ∙ append_assoc old written (32 ∷ []))
    c.push_letters.ensures.front

pub returns-clause-ok : goal.returns-clause-ok
returns-clause-ok c =
    let all : c.loop-n.n ≡ c.args.count = omega arith in
    c.loop-n.invariant ∙ ap (λ (k : ℕ). c.args.out.now.items ++ flat_map (λ (n : ℕ). 32 ∷ variable_text (names_of c.args.signature.now) n) (range_with_len 0 k)) all
