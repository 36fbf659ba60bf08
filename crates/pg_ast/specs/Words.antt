-- Words and symbols of statements.
pub mod Exprs
pub mod Names
pub mod Patterns
pub mod Terminals
use Rattle.std.specs.Prelude.{codes}
use Rattle.pg_lex.specs.declared.token.TokenKind.TheVariants.{End}
use Rattle.pg_ast.specs.Words.Terminals.{Terminal, Exactly, W, S}

abbrev pub ending : Terminal
ending = Exactly End

abbrev pub semicolon : Terminal
semicolon = S (codes ";")

abbrev pub equals : Terminal
equals = S (codes "=")

abbrev pub create : Terminal
create = W (codes "CREATE")

abbrev pub table : Terminal
table = W (codes "TABLE")

abbrev pub tables : Terminal
tables = W (codes "TABLES")

abbrev pub integer : Terminal
integer = W (codes "INTEGER")

abbrev pub int : Terminal
int = W (codes "INT")

abbrev pub boolean : Terminal
boolean = W (codes "BOOLEAN")

abbrev pub varchar : Terminal
varchar = W (codes "VARCHAR")

abbrev pub not_word : Terminal
not_word = W (codes "NOT")

abbrev pub null : Terminal
null = W (codes "NULL")

abbrev pub primary : Terminal
primary = W (codes "PRIMARY")

abbrev pub key : Terminal
key = W (codes "KEY")

abbrev pub property : Terminal
property = W (codes "PROPERTY")

abbrev pub graph : Terminal
graph = W (codes "GRAPH")

abbrev pub vertex : Terminal
vertex = W (codes "VERTEX")

abbrev pub edge : Terminal
edge = W (codes "EDGE")

abbrev pub source : Terminal
source = W (codes "SOURCE")

abbrev pub destination : Terminal
destination = W (codes "DESTINATION")

abbrev pub references : Terminal
references = W (codes "REFERENCES")

abbrev pub label : Terminal
label = W (codes "LABEL")

abbrev pub default_word : Terminal
default_word = W (codes "DEFAULT")

abbrev pub no_word : Terminal
no_word = W (codes "NO")

abbrev pub properties : Terminal
properties = W (codes "PROPERTIES")

abbrev pub are : Terminal
are = W (codes "ARE")

abbrev pub all : Terminal
all = W (codes "ALL")

abbrev pub columns : Terminal
columns = W (codes "COLUMNS")

abbrev pub as_word : Terminal
as_word = W (codes "AS")

abbrev pub insert : Terminal
insert = W (codes "INSERT")

abbrev pub into : Terminal
into = W (codes "INTO")

abbrev pub values : Terminal
values = W (codes "VALUES")

abbrev pub update : Terminal
update = W (codes "UPDATE")

abbrev pub set : Terminal
set = W (codes "SET")

abbrev pub delete : Terminal
delete = W (codes "DELETE")

abbrev pub from : Terminal
from = W (codes "FROM")

abbrev pub where_word : Terminal
where_word = W (codes "WHERE")

abbrev pub begin : Terminal
begin = W (codes "BEGIN")

abbrev pub start : Terminal
start = W (codes "START")

abbrev pub transaction : Terminal
transaction = W (codes "TRANSACTION")

abbrev pub commit : Terminal
commit = W (codes "COMMIT")

abbrev pub rollback : Terminal
rollback = W (codes "ROLLBACK")

abbrev pub work : Terminal
work = W (codes "WORK")

abbrev pub select : Terminal
select = W (codes "SELECT")
