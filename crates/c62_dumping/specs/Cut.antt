-- How an answer is parted by how many bytes go to each file (docs/COMMANDS.md, "Files").
use Rattle.std.specs.Prelude.{ℕ, ◌-◌, List, [], ◌∷◌, length, fold, take, drop}
use Rattle.c62_files.specs.Words.{Text}

-- how many of so many bytes stand before those that go to files
abbrev pub front_of : ℕ → List ℕ → ℕ
front_of total counts = fold (λ front count. front - count) total counts

-- what stands there is the report
abbrev pub report_in : (counts answer : List ℕ) → List ℕ
report_in counts answer = take (front_of (length answer) counts) answer

-- the bytes that go to files
abbrev pub dumped_in : (counts answer : List ℕ) → List ℕ
dumped_in counts answer = drop (front_of (length answer) counts) answer

-- the files, each with as many of the bytes as its count says, one behind the other
unfoldable pub files_of : (names : List Text) → (counts bytes : List ℕ) → List (Text × List ℕ)
files_of [] counts bytes = []
files_of (name ∷ names) [] bytes = []
files_of (name ∷ names) (count ∷ counts) bytes = (name, take count bytes) ∷ files_of names counts (drop count bytes)
