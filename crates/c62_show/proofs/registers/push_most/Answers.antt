use Rattle.std.proofs.Common.{◌≡◌, ◌∙◌, ◌++◌, ℕ, List, ap, append_assoc}
use Rattle.std.specs.Prelude.{codes, decimal, string_bytes}
unfoldable use Rattle.c62_show.specs.Registers.{most_words}
use Rattle.c62_show.proofs.registers.push_most.Goals as goal

-- one more piece
added : (s t u p q : List ℕ) → t ≡ s ++ p → u ≡ t ++ q → u ≡ s ++ (p ++ q)
added s t u p q first more = more ∙ (ap (λ (text : List ℕ). text ++ q) first ∙ append_assoc s p q)

pub returns : goal.returns
unfolding most_words
returns c =
    let most : List ℕ = decimal c.args.most in
    let words : List ℕ = codes " at most, in cycle " in
    let cycle : List ℕ = decimal c.args.cycle in
    let begin : List ℕ = string_bytes c.args.out.now in
    let counted : string_bytes c.push_number.new.out ≡ begin ++ most = c.in_ok-push_number.ensures in
    let named : string_bytes c.push_str.new.self ≡ string_bytes c.push_number.new.out ++ words =
    c.in_ok-push_str.ensures.bytes in
    let placed : string_bytes c.push_number-2.new.out ≡ string_bytes c.push_str.new.self ++ cycle =
    c.in_ok-push_number-2.ensures in
    let ended : string_bytes c.push_str-2.new.self ≡ string_bytes c.push_number-2.new.out ++ codes "; unused" =
    c.in_ok-push_str-2.ensures.bytes in
    let two = added begin (string_bytes c.push_number.new.out) (string_bytes c.push_str.new.self) most words counted
    named in
    let three = added begin (string_bytes c.push_str.new.self) (string_bytes c.push_number-2.new.out) (most ++ words)
    cycle two placed in
    added begin (string_bytes c.push_number-2.new.out) (string_bytes c.push_str-2.new.self) (most ++ words ++ cycle)
    (codes "; unused") three ended
