use Rattle.std.proofs.Common.{◌≡◌, ◌++◌, sym, ap, ◌∙◌, arith}
use Rattle.std.proofs.lemmas.List.{append-nil}
use Rattle.wah_words.specs.Places.{places}
use Rattle.wah_iter.proofs.appender.Appender.finish.Goals.{then-count-gt0, else-count-gt0}
use Rattle.wah_iter.proofs.appender.Appender.finish.Goals as goal

pub returns : goal.returns
unfolding places
returns c =
    let s = c.self.inside in
    elim c.if-count-gt0.branch [
      | then-count-gt0 w ↦ c.finish.ensures ∙ ap (λ b. b.values) w.out-is ∙ w.push_tail.ensures.values ∙ ap (λ a. a.values) c.self.view_is
      | else-count-gt0 w ↦
          let none : s.count ≡ 0 = omega (arith, w.if-count-gt0.false) in
          c.finish.ensures ∙ ap (λ b. b.values) w.out-is ∙ sym (append-nil s.out.values) ∙ ap (λ k. s.out.values ++ places k s.part) (sym none) ∙ ap (λ a. a.values) c.self.view_is
    ]
