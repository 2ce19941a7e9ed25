use Rattle.pool.proofs.pool.Pool.new.Goals as goal

pub returns : goal.returns
returns c =
    let a = c.fill.ensures.after (λ y q. q) in
    let b = c.fill-2.ensures.after (λ y q. q) in
    cc
