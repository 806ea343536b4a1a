-- What an operation returns, in a lent list. Assumes nothing.
use Rattle.std.specs.Prelude.{List, ℕ}
use Rattle.mesh.specs.Numbers.{Answer, refused, returned}
use Rattle.buffers.specs.Over.{put_first}

-- what is returned, put first if there is room for it; a refusal touches nothing
abbrev pub put_returned : Answer → List ℕ → List ℕ
put_returned (returned n) xs = put_first n xs
put_returned (refused k) xs = xs
