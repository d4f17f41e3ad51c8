use Rattle.std.proofs.Common.{◌≡◌, ℕ, Option, Some, None, sym, ◌∙◌}
use Rattle.desk_workers.proofs.RunDesks.{found}
use Rattle.desk_workers.proofs.done.Done.delivered.Goals as goal

not_both : (o : Option ℕ) (v : ℕ) → o ≡ None → o ≡ Some v → ⊥
not_both o v none some = let both : None ≡ Some v = sym none ∙ some in cc

same_word : (o : Option ℕ) (v x : ℕ) → o ≡ Some v → o ≡ Some x → v ≡ x
same_word o v x a b = let both : Some v ≡ Some x = sym a ∙ b in cc

pub unreachable-requires : goal.unreachable-requires
unreachable-requires c =
    let w = c.requires.0 in
    let opens = c.requires.2 in
    let done = found w c.args.self.now c.requires.1 c.args.session c.args.reader opens.in_session opens.in_party c.desk.result.now c.desk.ensures in
    not_both c.delivered.result _ c.in-None.is (c.delivered.ensures ∙ done.delivered c.args.output opens.is_output opens.is_read)

pub returns : goal.returns
returns c w over opens =
    let done = found w c.args.self.now over c.args.session c.args.reader opens.in_session opens.in_party c.desk.result.now c.desk.ensures in
    same_word c.delivered.result _ _ c.in-Some.is (c.delivered.ensures ∙ done.delivered c.args.output opens.is_output opens.is_read)
