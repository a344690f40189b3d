-- Where tokens stand.
use Rattle.std.proofs.Common.{◌≡◌, refl, ap, arith, ℕ, zero, suc, ◌-◌, List, [], get_or, drop}
use Rattle.std.specs.Prelude.{map}
use Rattle.kb_text.specs.Tokens.{Placed, tokens_from}
use Rattle.kb_text.specs.Starts.{first_and_rest}
use Rattle.kb_text.specs.declared.lexer.Form.{Form}
use Rattle.kb_text.specs.declared.lexer.Form.TheVariants.{Mark as MarkForm, Identifier, End}
use Rattle.kb_text.specs.declared.lexer.Found.{Found}

abbrev pub places : List Placed → List ℕ
places ts = map (λ (t : Placed). t.at) ts

pub place_next : (bytes : List ℕ) (f : Found) (n : ℕ) → (f.form ≡ End → ⊥) → (n ≡ 0 → ⊥) → get_or (places (first_and_rest bytes f)) n 0 ≡ get_or (places (tokens_from 0 f.end (drop f.end bytes))) (n - 1) 0
place_next bytes f n e h = go f.form e n h
  where
    less : (k : ℕ) → k ≡ suc k - 1
    less k = omega arith

    go : (form : Form) → (form ≡ End → ⊥) → (n : ℕ) → (n ≡ 0 → ⊥) → get_or (places (first_and_rest bytes (record f { form = form }))) n 0 ≡ get_or (places (tokens_from 0 f.end (drop f.end bytes))) (n - 1) 0
    go End e n h = absurd (e refl)
    go form e zero h = absurd (h refl)
    go (MarkForm m) e (suc n) h = ap (λ (k : ℕ). get_or (places (tokens_from 0 f.end (drop f.end bytes))) k 0) (less n)
    go Identifier e (suc n) h = ap (λ (k : ℕ). get_or (places (tokens_from 0 f.end (drop f.end bytes))) k 0) (less n)
