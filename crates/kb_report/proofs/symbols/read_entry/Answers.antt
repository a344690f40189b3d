use Rattle.std.proofs.Common.{arith, ap, ◌∙◌, ℕ, List, get_or, ◌-◌, ◌≤◌}
use Rattle.kb_report.proofs.NamesRead.{entry_long, entry_tail, entry_made}
use Rattle.kb_report.proofs.symbols.read_entry.Goals as goal

pub returns-then-field-lt2 : goal.returns-then-field-lt2
returns-then-field-lt2 c = λ f s e. let n = entry_long f c.args.field.now s e in omega arith

pub returns-then-arity-ne47 : goal.returns-then-arity-ne47
returns-then-arity-ne47 c = λ f s e. let b = ap (λ (xs : List ℕ). get_or xs 0 0) (c.split_at.ensures.back ∙ entry_tail f c.args.field.now s e) in omega arith

pub returns-then-digit-lt48 : goal.returns-then-digit-lt48
returns-then-digit-lt48 c = λ f s e. let b = ap (λ (xs : List ℕ). get_or xs 1 0) (c.split_at.ensures.back ∙ entry_tail f c.args.field.now s e) in omega arith

pub returns-then-digit-gt56 : goal.returns-then-digit-gt56
returns-then-digit-gt56 c = λ f s e. let b = ap (λ (xs : List ℕ). get_or xs 1 0) (c.split_at.ensures.back ∙ entry_tail f c.args.field.now s e) in omega arith

pub returns : goal.returns
returns c =
    let tail = c.split_at.result.1.now in
    let small : get_or tail 1 0 - 48 ≤ 8 = omega arith in
    (small, entry_made c.args.field.now tail (record { name = c.in_ok-from_slice.field-0.items; arity = get_or tail 1 0 - 48 }) (c.in_ok-from_slice.ensures.items ∙ c.split_at.ensures.front) c.split_at.ensures.back (omega arith) (omega arith) (omega arith) small)
