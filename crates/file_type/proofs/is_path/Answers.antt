-- `file_type::is_path` meets its contract. Assumes nothing.
use Rattle.std.proofs.Common.{rules, tests, length, eqb, not, lt-ltb}
use Rattle.std.proofs.lemmas.Iterator.{YieldsList-from_slice}
use Rattle.std.proofs.lemmas.Iterator.Search.{all_from_yields_List}
use Rattle.file_type.specs.Path.{is_path}
use Rattle.file_type.proofs.is_path.Goals as goal

pub returns-then-path-lt-PATH_MAX : goal.returns-then-path-lt-PATH_MAX
unfolding is_path
returns-then-path-lt-PATH_MAX c =
    let all = all_from_yields_List (λ byte. not (eqb byte 0)) _ _ c.all.result c.all.ensures.ran (YieldsList-from_slice c.args.path.now cc) (λ x b q k. search (rules, tests)) in
    rw (lt-ltb (length c.args.path.now) 4096 c.if-path-lt-PATH_MAX.true) all
