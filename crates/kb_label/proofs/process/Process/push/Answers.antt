use Rattle.std.proofs.Common.{◌≡◌, ◌<◌, ◌+◌, ◌/◌, ◌≤◌, ℕ, List, length, ap, sym, subst, ◌∙◌, ◌++◌, ◌∷◌, [], set, get_or, arith}
use Rattle.kb_label.specs.Names.{Name}
use Rattle.kb_label.specs.Packed.{name_in, words_of}
use Rattle.kb_label.specs.declared.process.TheConstants.{MAX_BITS}
use Rattle.kb_label.proofs.Words.{one_more, one_more_packed, one_more_long, one_more_fits}
use Rattle.kb_label.proofs.process.Process.push.Goals as goal

room : (words : List ℕ) (n : ℕ) (p : Name) → length (name_in words n) ≡ n → name_in words n ≡ p → length p < MAX_BITS → n < 1023
room words n p k e h = omega (arith, ap length e)

pub overflow_add-self : goal.overflow_add-self
overflow_add-self c =
    let fits = one_more_fits c.self.inside.words c.self.inside.len c.self.invariant.1 c.self.invariant.2 (room c.self.inside.words c.self.inside.len c.args.self.now c.self.invariant.2 c.self.view_is c.requires) c.args.bit in
    omega (arith, fits, c.weight.ensures)

pub invariant_of-self : goal.invariant_of-self
invariant_of-self c =
    let words = c.self.inside.words in
    let n = c.self.inside.len in
    let inside = c.self.invariant in
    let P : ℕ → Type 0 = λ w. (n + 1 ≤ MAX_BITS) × (set words (n / 64) (get_or words (n / 64) 0 + w) ≡ words_of 16 (name_in (set words (n / 64) (get_or words (n / 64) 0 + w)) (n + 1))) × (length (name_in (set words (n / 64) (get_or words (n / 64) 0 + w)) (n + 1)) ≡ n + 1) in
    subst P (sym c.weight.ensures) (omega (arith, room c.self.inside.words c.self.inside.len c.args.self.now c.self.invariant.2 c.self.view_is c.requires), one_more_packed words n inside.1 inside.2 (room c.self.inside.words c.self.inside.len c.args.self.now c.self.invariant.2 c.self.view_is c.requires) c.args.bit, one_more_long words n inside.1 inside.2 (room c.self.inside.words c.self.inside.len c.args.self.now c.self.invariant.2 c.self.view_is c.requires) c.args.bit)

pub returns : goal.returns
returns c =
    let words = c.self.inside.words in
    let n = c.self.inside.len in
    let inside = c.self.invariant in
    ap (λ w. name_in (set words (n / 64) (get_or words (n / 64) 0 + w)) (n + 1)) c.weight.ensures
    ∙ one_more words n inside.1 inside.2 (room c.self.inside.words c.self.inside.len c.args.self.now c.self.invariant.2 c.self.view_is c.requires) c.args.bit
    ∙ ap (λ (l : Name). l ++ c.args.bit ∷ []) c.self.view_is
