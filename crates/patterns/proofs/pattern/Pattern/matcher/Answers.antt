use Rattle.patterns.proofs.pattern.Pattern.matcher.Goals as goal

pub invariant_of-result : goal.invariant_of-result
invariant_of-result c = λ text bytes. rw (c.in_ok-matcher.ensures.pattern, c.as_str-text.ensures.value) (c.self.invariant text bytes)
