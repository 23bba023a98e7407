mod AlikeLaws
